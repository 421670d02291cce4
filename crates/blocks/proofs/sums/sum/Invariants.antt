use Rattle.blocks.proofs.Adding.{Summed}
use Rattle.blocks.proofs.sums.sum.Given as goal

abbrev pub invariant-loop-byte : goal.invariant-loop-byte
invariant-loop-byte l = Summed l.bytes l.byte-index l.sum
