use Rattle.blocks.proofs.Adding.{Weighted}
use Rattle.blocks.proofs.sums.weighted_sum.Given as goal

abbrev pub invariant-loop-i : goal.invariant-loop-i
invariant-loop-i l = Weighted l.bytes l.i l.sum
