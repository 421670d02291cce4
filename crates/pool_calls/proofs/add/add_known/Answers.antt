use Rattle.diagram.proofs.Accepting.{passed_on}
use Rattle.pool_calls.proofs.Calling.{add_refused, add_addable, add_done}
use Rattle.pool_calls.proofs.add.add_known.Goals as goal

pub returns-in_err-validate : goal.returns-in_err-validate
returns-in_err-validate c =
    rw (passed_on c.from_residual.result c.in_err-validate.field-0.0 c.from_residual.ensures.1)
    (add_refused _ _ _ _ c.args.room.now c.requires c.validate.ensures c.in_err-validate.was)

pub add_accepted-requires : goal.add_accepted-requires
add_accepted-requires c = add_addable _ _ _ c.args.slot c.args.room.now c.requires c.validate.ensures c.in_ok-validate.was

pub returns : goal.returns
returns c = add_done _ _ _ _ c.args.room.now c.requires c.validate.ensures c.in_ok-validate.was c.add_accepted.ensures
