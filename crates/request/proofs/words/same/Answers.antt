use mathlib.Core.Path.{◌∙◌}
use Rattle.request.proofs.Alike.{pointwise_alike}
use Rattle.request.proofs.words.same.Goals as goal

pub returns : goal.returns
returns c = c.eq.ensures ∙ pointwise_alike _ _
