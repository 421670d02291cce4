use Rattle.diagram.proofs.Words.{zeros_whole}
use mathlib.Core.Path.{◌∙◌}
use Rattle.comparison.proofs.compare.work_and_clear.Goals as goal

pub returns : goal.returns
returns c = (c.work-told.ensures, c.clear.ensures ∙ zeros_whole c.work-told.new.table c.args.table.now c.work-told.auto.table)
