use mathlib.Core.Path.{refl, ◌∙◌}
use Rattle.weights.proofs.Ascent.{up_begins, up_turns, up_on, up_ends}
use Rattle.weights.proofs.up.level.Goals as goal

pub loop-node-init : goal.loop-node-init
loop-node-init c = (up_begins c.requires c.head_of-node.result.0 c.head_of-node.ensures, refl)

pub pass_on-requires : goal.pass_on-requires
pass_on-requires c = up_turns c.requires c.loop-node.invariant.0 c.loop-node-test.true

pub loop-node-smaller : goal.loop-node-smaller
loop-node-smaller c = (up_on c.requires c.loop-node.invariant.0 c.loop-node-test.true c.pass_on.ensures c.next_of-node.result.0 c.next_of-node.ensures).1

pub loop-node-preserved : goal.loop-node-preserved
loop-node-preserved c = ((up_on c.requires c.loop-node.invariant.0 c.loop-node-test.true c.pass_on.ensures c.next_of-node.result.0 c.next_of-node.ensures).0, c.pass_on.auto.room ∙ c.loop-node.invariant.1)

pub shape_of-room : goal.shape_of-room
shape_of-room c = c.loop-node.invariant.1

pub returns : goal.returns
returns c = up_ends c.requires c.loop-node.invariant.0 c.loop-node-test.false
