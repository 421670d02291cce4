use mathlib.Core.Path.{sym, ap, ◌∙◌}
use Rattle.converting.specs.Converting.{looks}
use Rattle.converting.proofs.answer.wants_input.Goals as goal

pub returns-in-Help : goal.returns-in-Help
returns-in-Help c = ap looks (sym c.in-Help.is ∙ c.conversion_of-conversion.ensures)

pub returns-in-Unknown : goal.returns-in-Unknown
returns-in-Unknown c = ap looks (sym c.in-Unknown.is ∙ c.conversion_of-conversion.ensures)

pub returns-in-Convert : goal.returns-in-Convert
returns-in-Convert c = ap looks (sym c.in-Convert.is ∙ c.conversion_of-conversion.ensures)
