use mathlib.Core.Path.{refl, ◌∙◌}
use Rattle.recounts.proofs.Passes.{level_begins, level_turns, level_on, level_ends, level_place, next_is}
use native.Mathlib.Omega.{arith}
use Rattle.recounts.proofs.renewal.level.Goals as goal

pub loop-node-init : goal.loop-node-init
loop-node-init c = (level_begins c.requires c.head_of-node.result.0 c.head_of-node.ensures, refl)

pub renew-requires : goal.renew-requires
renew-requires c = level_turns c.requires.given c.requires.level c.loop-node.invariant.0 c.loop-node-test.true

pub overflow_mul-nodes : goal.overflow_mul-nodes
overflow_mul-nodes c = omega (arith, level_place c.requires.given c.loop-node.invariant.0 c.loop-node-test.true)

pub overflow_add-nodes : goal.overflow_add-nodes
overflow_add-nodes c = omega (arith, level_place c.requires.given c.loop-node.invariant.0 c.loop-node-test.true, c.to_index.ensures)

pub loop-node-smaller : goal.loop-node-smaller
loop-node-smaller c = (level_on c.requires.given c.requires.level c.loop-node.invariant.0 c.loop-node-test.true c.renew.ensures c.word.result (next_is c.renew.new.room c.args.nodes c.loop-node.node.0 c.to_index.ensures c.word.ensures)).1

pub loop-node-preserved : goal.loop-node-preserved
loop-node-preserved c = ((level_on c.requires.given c.requires.level c.loop-node.invariant.0 c.loop-node-test.true c.renew.ensures c.word.result (next_is c.renew.new.room c.args.nodes c.loop-node.node.0 c.to_index.ensures c.word.ensures)).0, c.renew.auto.changed ∙ c.loop-node.invariant.1)

pub shape_of-changed : goal.shape_of-changed
shape_of-changed c = c.loop-node.invariant.1

pub shape_of-room : goal.shape_of-room
shape_of-room c = c.loop-node.invariant.0.renewed.untouched.kept

pub returns : goal.returns
returns c = level_ends c.requires.given c.requires.level c.loop-node.invariant.0 c.loop-node-test.false
