use Prim.Native.Nat.{◌≤◌}
use Rattle.summary_count.proofs.Turns.{Through}
use Rattle.summary_count.proofs.slots.count_stamped.Given as goal

abbrev pub invariant-loop-i : goal.invariant-loop-i
invariant-loop-i l = Through l.vars l.number l.work l.initial.summary l.i l.summary × (l.i ≤ l.vars)
