use Rattle.store.proofs.Joining.{shelf_fits, key_small, seek_begin, seek_inside, seek_onward, seek_less, seek_hit, seek_end}
use mathlib.Core.Path.{sym, ◌∙◌}
use native.Mathlib.Omega.{arith}
use Rattle.store.proofs.shelf.seek.Goals as goal

pub overflow_mul-capacity : goal.overflow_mul-capacity
overflow_mul-capacity c = omega (arith, c.requires.0.stored.space.few)

pub overflow_add-base : goal.overflow_add-base
overflow_add-base c = omega (arith, c.requires.0.stored.space.few, c.requires.0.stored.space.near)

pub overflow_add-base-2 : goal.overflow_add-base-2
overflow_add-base-2 c = omega (arith, c.requires.0.stored.space.few, c.requires.0.stored.space.near, c.requires.1, key_small c.requires.0)

pub loop-q-init : goal.loop-q-init
loop-q-init c = seek_begin c.requires.0 c.requires.1 c.word-q.ensures

pub overflow_mul-q : goal.overflow_mul-q
overflow_mul-q c = omega (arith, c.requires.0.stored.space.few, shelf_fits c.requires.0, seek_inside c.requires.0 c.loop-q.invariant)

pub overflow_add-base-in-loop-q : goal.overflow_add-base-in-loop-q
overflow_add-base-in-loop-q c = omega (arith, c.requires.0.stored.space.near, c.requires.0.stored.space.few, shelf_fits c.requires.0, seek_inside c.requires.0 c.loop-q.invariant)

pub is_node-requires : goal.is_node-requires
is_node-requires c = omega (arith, c.requires.0.stored.space.near, c.requires.0.stored.space.few, shelf_fits c.requires.0, seek_inside c.requires.0 c.loop-q.invariant)

pub returns-then-is_node : goal.returns-then-is_node
returns-then-is_node c = seek_hit c.requires.0 c.loop-q.invariant c.loop-q-test.true (sym c.is_node.ensures ∙ c.if-is_node.true)

pub overflow_mul-capacity-in-loop-q : goal.overflow_mul-capacity-in-loop-q
overflow_mul-capacity-in-loop-q c = omega (arith, c.requires.0.stored.space.few)

pub overflow_add-base-in-loop-q-2 : goal.overflow_add-base-in-loop-q-2
overflow_add-base-in-loop-q-2 c = omega (arith, c.requires.0.stored.space.few, c.requires.0.stored.space.near)

pub overflow_add-base-in-loop-q-3 : goal.overflow_add-base-in-loop-q-3
overflow_add-base-in-loop-q-3 c = omega (arith, c.requires.0.stored.space.near, c.requires.0.stored.space.few, shelf_fits c.requires.0, seek_inside c.requires.0 c.loop-q.invariant)

pub loop-q-smaller : goal.loop-q-smaller
loop-q-smaller c = seek_less c.requires.0 c.loop-q.invariant c.loop-q-test.true c.word-q-in-loop-q.ensures

pub loop-q-preserved : goal.loop-q-preserved
loop-q-preserved c = seek_onward c.requires.0 c.loop-q.invariant c.loop-q-test.true (sym c.is_node.ensures ∙ c.if-is_node.false) c.word-q-in-loop-q.ensures

pub returns : goal.returns
returns c = seek_end c.requires.0 c.loop-q-test.false c.loop-q.invariant
