use Rattle.diagram.proofs.Accepting.{passed_on}
use Rattle.queries.proofs.Answers.{tell_refused, tell_counts, tell_accepted}
use Rattle.queries.proofs.is_valuation.Goals as goal

pub returns-in_err-extent : goal.returns-in_err-extent
returns-in_err-extent c =
    rw (passed_on c.from_residual.result c.in_err-extent.field-0.0 c.from_residual.ensures.1) (tell_refused c.admit.ensures c.in_err-extent.was _ _)

pub tests_every_variable-value-requires : goal.tests_every_variable-value-requires
tests_every_variable-value-requires c = tell_counts c.admit.ensures c.in_ok-extent.was

pub returns : goal.returns
returns c = tell_accepted c.admit.ensures c.in_ok-extent.was _ _ _ c.tests_every_variable-value.ensures
