use mathlib.Core.Bool.{not}
use mathlib.Core.Path.{ap}
use Rattle.pool_check.proofs.Returns.{measured_few, pool_1, pool_2, pool_3, pool_4, pool_5, pool_6}
use Rattle.pool_check.proofs.check.is_pool.Goals as goal

pub returns-then-not-is_measured : goal.returns-then-not-is_measured
returns-then-not-is_measured c = pool_1 c.args.table.now c.args.slots.now c.is_measured.ensures (ap not c.if-not-is_measured.true)

pub returns-then-not-is_ended : goal.returns-then-not-is_ended
returns-then-not-is_ended c = pool_2 c.args.table.now c.args.slots.now c.is_measured.ensures (ap not c.if-not-is_measured.false) c.is_ended.ensures (ap not c.if-not-is_ended.true)

pub returns-then-not-are_names : goal.returns-then-not-are_names
returns-then-not-are_names c = pool_3 c.args.table.now c.args.slots.now c.is_measured.ensures (ap not c.if-not-is_measured.false) c.is_ended.ensures (ap not c.if-not-is_ended.false) c.are_names.ensures (ap not c.if-not-are_names.true)

pub are_right-requires : goal.are_right-requires
are_right-requires c = measured_few c.args.table.now c.args.slots.now c.is_measured.ensures (ap not c.if-not-is_measured.false)

pub returns-then-not-are_right : goal.returns-then-not-are_right
returns-then-not-are_right c = pool_4 c.args.table.now c.args.slots.now c.is_measured.ensures (ap not c.if-not-is_measured.false) c.is_ended.ensures (ap not c.if-not-is_ended.false) c.are_names.ensures (ap not c.if-not-are_names.false) c.are_right.ensures (ap not c.if-not-are_right.true)

pub are_wanted-requires : goal.are_wanted-requires
are_wanted-requires c = measured_few c.args.table.now c.args.slots.now c.is_measured.ensures (ap not c.if-not-is_measured.false)

pub returns-then-not-are_wanted : goal.returns-then-not-are_wanted
returns-then-not-are_wanted c = pool_5 c.args.table.now c.args.slots.now c.is_measured.ensures (ap not c.if-not-is_measured.false) c.is_ended.ensures (ap not c.if-not-is_ended.false) c.are_names.ensures (ap not c.if-not-are_names.false) c.are_right.ensures (ap not c.if-not-are_right.false) c.are_wanted.ensures (ap not c.if-not-are_wanted.true)

pub are_distinct-requires : goal.are_distinct-requires
are_distinct-requires c = measured_few c.args.table.now c.args.slots.now c.is_measured.ensures (ap not c.if-not-is_measured.false)

pub returns : goal.returns
returns c = pool_6 c.args.table.now c.args.slots.now c.is_measured.ensures (ap not c.if-not-is_measured.false) c.is_ended.ensures (ap not c.if-not-is_ended.false) c.are_names.ensures (ap not c.if-not-are_names.false) c.are_right.ensures (ap not c.if-not-are_right.false) c.are_wanted.ensures (ap not c.if-not-are_wanted.false) c.are_distinct.ensures
