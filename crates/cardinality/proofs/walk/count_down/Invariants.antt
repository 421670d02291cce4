use mathlib.Core.Path.{◌≡◌}
use Prim.Native.Nat.{◌≤◌}
use lib.ListN.{length}
use Rattle.cardinality.specs.Table.{Floated}
use Rattle.cardinality.proofs.walk.count_down.Given as goal

abbrev pub invariant-loop-c : goal.invariant-loop-c
invariant-loop-c l = Floated l.words l.room l.c 0 × (l.c ≤ l.vars) × (length l.room ≡ length l.initial.room)
