use Rattle.diagram.proofs.Accepting.{passed_on}
use Rattle.queries.proofs.Answers.{list_refused, list_asks, list_accepted}
use Rattle.queries.proofs.per_variable.size_per_variable.Goals as goal

pub returns-in_err-extent : goal.returns-in_err-extent
returns-in_err-extent c =
    rw (passed_on c.from_residual.result c.in_err-extent.field-0.0 c.from_residual.ensures.1) (list_refused c.args.output.now c.admit.ensures c.in_err-extent.was)

pub list-requires : goal.list-requires
list-requires c = list_asks c.args.output.now c.admit.ensures c.in_ok-extent.was

pub returns : goal.returns
returns c =
    list_accepted c.args.output.now c.admit.ensures c.in_ok-extent.was _ c.list.ensures
