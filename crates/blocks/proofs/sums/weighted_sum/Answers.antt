use Rattle.blocks.proofs.Adding.{weighted_goes_on, weighted_ends}
use native.Mathlib.Omega.{arith}
use native.Mathlib.Omega.{arith}
use Rattle.blocks.proofs.sums.weighted_sum.Goals as goal

pub loop-i-preserved : goal.loop-i-preserved
loop-i-preserved c = weighted_goes_on c.loop-i.invariant c.requires c.loop-i-test.true (omega (arith, c.items_fit c.loop-i.i))

pub returns : goal.returns
returns c = weighted_ends c.loop-i.invariant c.loop-i-test.false
