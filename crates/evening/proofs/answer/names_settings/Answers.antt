use Rattle.evening.proofs.Calls.{names_behind, names_plain}
use Rattle.evening.proofs.answer.names_settings.Goals as goal

pub returns-then-same : goal.returns-then-same
returns-then-same c = names_behind _ _ _ c.same.ensures c.if-same.true c.is_settings.ensures

pub returns : goal.returns
returns c = names_plain _ _ _ c.same.ensures c.if-same.false c.is_settings-2.ensures
