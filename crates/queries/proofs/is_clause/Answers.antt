use Rattle.diagram.proofs.Accepting.{passed_on}
use Rattle.queries.proofs.Answers.{tell_refused, tell_counts, tell_accepted}
use Rattle.queries.proofs.is_clause.Goals as goal

pub returns-in_err-extent : goal.returns-in_err-extent
returns-in_err-extent c =
    rw (passed_on c.from_residual.result c.in_err-extent.field-0.0 c.from_residual.ensures.1) (tell_refused c.admit.ensures c.in_err-extent.was _ _)

pub ends_at_one-value-requires : goal.ends_at_one-value-requires
ends_at_one-value-requires c = ((tell_counts c.admit.ensures c.in_ok-extent.was).0, (tell_counts c.admit.ensures c.in_ok-extent.was).2)

pub returns : goal.returns
returns c = tell_accepted c.admit.ensures c.in_ok-extent.was _ _ _ c.ends_at_one-value.ensures
