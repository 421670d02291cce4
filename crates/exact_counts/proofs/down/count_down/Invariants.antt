use mathlib.Core.Path.{◌≡◌}
use Prim.Native.Nat.{◌≤◌}
use lib.ListN.{length}
use Rattle.counts.specs.Worth.{Worths}
use Rattle.exact_counts.proofs.down.count_down.Given as goal

abbrev pub invariant-loop-c : goal.invariant-loop-c
invariant-loop-c l = Worths l.valuations l.words l.room l.c 0 × (l.c ≤ l.vars) × (length l.room ≡ length l.initial.room)
