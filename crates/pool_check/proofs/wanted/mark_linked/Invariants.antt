use Prim.Native.Nat.{◌≤◌, max}
use mathlib.Core.Path.{◌≡◌}
use lib.ListN.{length}
use Rattle.pool_check.proofs.Marking.{Linking}
use Rattle.pool_check.proofs.wanted.mark_linked.Given as goal

abbrev pub invariant-loop-p : goal.invariant-loop-p
invariant-loop-p l = Linking l.table l.initial.marks l.p l.marks × (l.p ≤ max 2 l.places) × (length l.marks ≡ length l.initial.marks)
