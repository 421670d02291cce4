use Rattle.diagram.proofs.Accepting.{passed_on}
use Rattle.reduction.proofs.Reducing.{reduce_refused, reduce_asks, reduce_accepted}
use Rattle.reduction.proofs.reduce.reduce.Goals as goal

pub returns-in_err-extent : goal.returns-in_err-extent
returns-in_err-extent c =
    rw (passed_on c.from_residual.result c.in_err-extent.field-0.0 c.from_residual.ensures.1) (reduce_refused c.args.output.now c.admit.ensures c.in_err-extent.was)

pub answer-value-requires : goal.answer-value-requires
answer-value-requires c = reduce_asks c.args.output.now c.admit.ensures c.in_ok-extent.was

pub returns : goal.returns
returns c = reduce_accepted c.args.output.now c.admit.ensures c.in_ok-extent.was c.answer-value.ensures
