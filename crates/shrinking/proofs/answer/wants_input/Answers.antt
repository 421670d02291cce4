use Rattle.shrinking.specs.Shrinking.{looks}
use mathlib.Core.Path.{ap}
use Rattle.shrinking.proofs.answer.wants_input.Goals as goal

pub returns-in-Cut : goal.returns-in-Cut
returns-in-Cut c = ap looks (c.in-Cut.ensures)

pub returns-in-Help : goal.returns-in-Help
returns-in-Help c = ap looks (c.in-Help.ensures)

pub returns-in-Unknown : goal.returns-in-Unknown
returns-in-Unknown c = ap looks (c.in-Unknown.ensures)

pub returns-in-Which : goal.returns-in-Which
returns-in-Which c = ap looks (c.in-Which.ensures)
