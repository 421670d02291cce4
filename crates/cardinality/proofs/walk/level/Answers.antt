use mathlib.Core.Path.{refl, ◌∙◌}
use Rattle.cardinality.proofs.Steps.{down_begins, down_joins, down_on, down_ends}
use Rattle.cardinality.proofs.walk.level.Goals as goal

pub loop-node-init : goal.loop-node-init
loop-node-init c = (down_begins c.requires c.head_of-node.result.0 c.head_of-node.ensures, refl)

pub join-requires : goal.join-requires
join-requires c = down_joins c.requires.given c.requires.level c.loop-node.invariant.0 c.loop-node-test.true

pub loop-node-smaller : goal.loop-node-smaller
loop-node-smaller c = (down_on c.requires.given c.requires.level c.loop-node.invariant.0 c.loop-node-test.true c.join.ensures c.next_of-node.result.0 c.next_of-node.ensures).1

pub loop-node-preserved : goal.loop-node-preserved
loop-node-preserved c = ((down_on c.requires.given c.requires.level c.loop-node.invariant.0 c.loop-node-test.true c.join.ensures c.next_of-node.result.0 c.next_of-node.ensures).0, c.join.auto.room ∙ c.loop-node.invariant.1)

pub shape_of-room : goal.shape_of-room
shape_of-room c = c.loop-node.invariant.1

pub returns : goal.returns
returns c = down_ends c.requires.given c.requires.level c.loop-node.invariant.0 c.loop-node-test.false
