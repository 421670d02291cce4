use mathlib.Core.Path.{◌∙◌}
use Rattle.pool_build.proofs.Gathering.{loop_full, loop_goes, loop_ends}
use native.Mathlib.Omega.{arith}
use Rattle.pool_build.proofs.gather.gather.Goals as goal

pub returns-then-capacity-made : goal.returns-then-capacity-made
returns-then-capacity-made c = loop_full c.loop-k.invariant.0 c.loop-k-test.true c.gather_slot-made.ensures c.if-capacity-made.true

pub loop-k-preserved : goal.loop-k-preserved
loop-k-preserved c = (loop_goes c.loop-k.invariant.0 c.loop-k-test.true c.gather_slot-made.ensures c.if-capacity-made.false, c.gather_slot-made.auto.names ∙ c.loop-k.invariant.1, c.gather_slot-made.auto.work ∙ c.loop-k.invariant.2)

pub returns : goal.returns
returns c = loop_ends c.loop-k.invariant.0 (let up = c.loop-k.invariant.0.naming.up in let stop = c.loop-k-test.false in omega arith)
