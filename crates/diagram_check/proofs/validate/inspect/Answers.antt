use mathlib.Core.Path.{◌∙◌}
use Rattle.diagram.proofs.Words.{zeros_whole}
use Rattle.diagram_check.proofs.validate.inspect.Goals as goal

pub returns : goal.returns
returns c =
    (c.contents-verdict.ensures, c.clear.ensures ∙ zeros_whole c.contents-verdict.new.room c.args.room.now c.contents-verdict.auto.room)
