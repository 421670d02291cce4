use mathlib.Core.Path.{sym, ◌∙◌}
use Rattle.pairs.proofs.Steps.{level_first, level_second}
use Rattle.pairs.proofs.step.level.Goals as goal

pub returns-then-is_before : goal.returns-then-is_before
returns-then-is_before c = level_first c.var_of-x.ensures c.var_of-y.ensures (sym c.is_before.ensures ∙ c.if-is_before.true)

pub returns-else-is_before : goal.returns-else-is_before
returns-else-is_before c = level_second c.var_of-x.ensures c.var_of-y.ensures (sym c.is_before.ensures ∙ c.if-is_before.false)
