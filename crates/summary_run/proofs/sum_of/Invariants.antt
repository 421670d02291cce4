use Prim.Native.Nat.{◌<◌}
use Rattle.summary_run.proofs.sum_of.Given as goal

abbrev pub invariant-loop-word : goal.invariant-loop-word
invariant-loop-word l = l.sum < 4294967311
