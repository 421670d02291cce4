use Rattle.diagram.proofs.Accepting.{passed_on}
use Rattle.negation.proofs.Answers.{negate_refused, negate_asks, negate_accepted}
use Rattle.negation.proofs.not.Goals as goal

pub returns-in_err-extent : goal.returns-in_err-extent
returns-in_err-extent c =
    rw (passed_on c.from_residual.result c.in_err-extent.field-0.0 c.from_residual.ensures.1) (negate_refused c.args.output.now c.admit.ensures c.in_err-extent.was)

pub negate-value-requires : goal.negate-value-requires
negate-value-requires c = negate_asks c.args.output.now c.admit.ensures c.in_ok-extent.was

pub returns : goal.returns
returns c =
    negate_accepted c.args.output.now c.admit.ensures c.in_ok-extent.was _ _ c.negate-value.ensures
