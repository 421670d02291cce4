use mathlib.Core.Path.{◌∙◌}
use Rattle.evening.proofs.Calls.{not_due, when_due}
use Rattle.evening.proofs.answer.is_settings.Goals as goal

pub returns-then-count-due : goal.returns-then-count-due
returns-then-count-due c = not_due _ _ _ c.if-count-due.true

pub returns : goal.returns
returns c = c.same.ensures ∙ when_due _ _ _ c.if-count-due.false
