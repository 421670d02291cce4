use mathlib.Core.Path.{ap, ◌∙◌}
use Rattle.naturals.specs.Natural.{value}
use Rattle.naturals.specs.declared.Natural.{Natural}
use Rattle.naturals.proofs.Answer.{answers_or}
use Rattle.report.proofs.lines.weight_of.Goals as goal

pub returns : goal.returns
returns c = ap (λ (a : Natural). value a.words) c.unwrap_or.ensures ∙ (answers_or c.load.ensures c.zero.result c.zero.ensures).worth
