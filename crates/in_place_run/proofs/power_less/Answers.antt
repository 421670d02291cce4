use Prim.Native.Nat.{ℕ, ◌^◌, ◌≤◌, ◌<◌}
use mathlib.Core.Path.{◌≡◌}
use lib.ListN.{set, replicate}
use lib.Pow.{pow_mono}
use Rattle.naturals.specs.Natural.{value, word_count}
use Rattle.in_place.specs.InPlace.{number_in}
use Rattle.in_place_run.specs.Room.{room_length}
use native.Mathlib.Omega.{arith}
use Rattle.in_place_run.proofs.power_less.Goals as goal

word-alone : (x : ℕ) → number_in word_count (set (replicate room_length 0) 0 x) 0 ≡ x
unfolding value
word-alone x = omega arith

word_below : (x bits : ℕ) → x < 2 ^ 32 → 32 ≤ bits → number_in word_count (set (replicate room_length 0) 0 x) 0 ≤ 2 ^ bits
word_below x bits h l = omega (arith, word-alone x, pow_mono {i = 32} {j = bits} l)

pub subtract_from_power-requires : goal.subtract_from_power-requires
subtract_from_power-requires c = record { few = omega (arith, c.requires.1); inside = omega arith; most = word_below c.args.x c.args.bits (omega arith) c.requires.0 }
