use mathlib.Core.Path.{refl}
use mathlib.Core.Logic.{inl, inr}
use native.Mathlib.Omega.{arith}
use Rattle.in_place_run.proofs.sum_to_first.Goals as goal

pub add_shifted-requires : goal.add_shifted-requires
add_shifted-requires c = let e = c.requires.0 in let few = c.requires.1 in record { few = few; target = omega arith; first = omega arith; second = omega arith; first_clear = inr (refl, omega arith); second_clear = inl (inr (omega arith)) }
