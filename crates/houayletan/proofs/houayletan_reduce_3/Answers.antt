use Rattle.reduction.specs.Answer.{Reduces}
use Rattle.houayletan.proofs.Flattening.{flat_diagram}
use Rattle.houayletan.proofs.houayletan_reduce_3.Goals as goal

pub returns : goal.returns
returns c = flat_diagram (Reduces _ _ _ _ _) c.reduce.ensures _ c.from.ensures
