use Rattle.blocks.proofs.Adding.{summed_goes_on, summed_ends}
use native.Mathlib.Omega.{arith}
use Rattle.blocks.proofs.sums.sum.Goals as goal

pub loop-byte-preserved : goal.loop-byte-preserved
loop-byte-preserved c = summed_goes_on c.loop-byte.invariant c.loop-byte-test.true (omega (arith, c.items_fit c.loop-byte.byte-index))

pub returns : goal.returns
returns c = summed_ends c.loop-byte.invariant c.loop-byte-test.false
