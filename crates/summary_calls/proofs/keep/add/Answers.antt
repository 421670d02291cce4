use Rattle.diagram.proofs.Accepting.{passed_on}
use Rattle.summary_calls.proofs.Keeping.{add_before, pool_there, add_refused, add_recounting, add_done}
use Rattle.summary_calls.proofs.keep.add.Goals as goal

pub returns-in_err-stands : goal.returns-in_err-stands
returns-in_err-stands c =
    rw (passed_on c.from_residual.result c.in_err-stands.field-0.0 c.from_residual.ensures.1)
    (add_before c.args.table.now c.args.slots.now c.args.summary.now c.stands.ensures c.args.words.now c.args.slot c.args.room.now c.in_err-stands.was)

pub add_known-requires : goal.add_known-requires
add_known-requires c = pool_there c.args.table.now c.args.slots.now c.args.summary.now c.stands.ensures c.in_ok-stands.was

pub returns-in_err-extent : goal.returns-in_err-extent
returns-in_err-extent c =
    rw (passed_on c.from_residual-in_err-extent.result c.in_err-extent.field-0.0 c.from_residual-in_err-extent.ensures.1)
    (add_refused c.args.table.now c.args.slots.now c.args.summary.now c.stands.ensures c.in_ok-stands.was c.add_known.ensures c.in_err-extent.was)

pub recount-requires : goal.recount-requires
recount-requires c = add_recounting c.args.table.now c.args.slots.now c.args.summary.now c.stands.ensures c.in_ok-stands.was c.add_known.ensures c.in_ok-extent.was

pub returns : goal.returns
returns c = add_done c.args.table.now c.args.slots.now c.args.summary.now c.stands.ensures c.in_ok-stands.was c.add_known.ensures c.in_ok-extent.was c.recount.ensures
