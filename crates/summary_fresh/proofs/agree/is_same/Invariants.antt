use Prim.Native.Nat.{◌≤◌}
use Rattle.summary_fresh.proofs.Afresh.{SameBelow}
use Rattle.summary_fresh.proofs.agree.is_same.Given as goal

abbrev pub invariant-loop-at : goal.invariant-loop-at
invariant-loop-at l = SameBelow l.kept l.fresh l.at × (l.at ≤ l.count)
