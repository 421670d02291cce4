use Rattle.store.proofs.Joining.{shelf_fits, key_small, joins_equal, joins_found, joins_full, joins_new}
use native.Mathlib.Omega.{arith}
use Rattle.store.proofs.shelf.join.Goals as goal

pub returns-then-low-high : goal.returns-then-low-high
returns-then-low-high c = joins_equal c.requires c.if-low-high.true

pub key-bucket-requires : goal.key-bucket-requires
key-bucket-requires c = c.requires.stored.space.few

pub seek-place-requires : goal.seek-place-requires
seek-place-requires c = (c.requires, c.key-bucket.ensures)

pub overflow_cast-result : goal.overflow_cast-result
overflow_cast-result c = omega (arith, c.requires.stored.space.few, shelf_fits c.requires, c.if-place-count.true)

pub returns-then-place-count : goal.returns-then-place-count
returns-then-place-count c = joins_found c.requires c.if-low-high.false c.seek-place.ensures c.if-place-count.true

pub overflow_add-more : goal.overflow_add-more
overflow_add-more c = omega (arith, c.requires.stored.space.few, shelf_fits c.requires)

pub overflow_add-result : goal.overflow_add-result
overflow_add-result c = omega (arith, c.requires.stored.space.few)

pub returns-then-capacity-more : goal.returns-then-capacity-more
returns-then-capacity-more c = joins_full c.requires c.if-low-high.false c.seek-place.ensures c.if-place-count.false c.if-capacity-more.true

pub enter-requires : goal.enter-requires
enter-requires c =
    let small = key_small c.requires in
    (c.requires.stored.space, omega (arith, c.if-capacity-more.false), omega (arith, c.key-bucket.ensures, small))

pub overflow_cast-result-2 : goal.overflow_cast-result-2
overflow_cast-result-2 c = omega (arith, c.requires.stored.space.few, shelf_fits c.requires)

pub returns : goal.returns
returns c = joins_new c.requires c.if-low-high.false c.seek-place.ensures c.if-place-count.false c.if-capacity-more.false c.key-bucket.ensures c.enter.ensures
