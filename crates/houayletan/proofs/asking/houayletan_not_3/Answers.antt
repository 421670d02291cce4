use Rattle.negation.specs.Negation.{Negates}
use Rattle.houayletan.proofs.Flattening.{flat_diagram}
use Rattle.houayletan.proofs.asking.houayletan_not_3.Goals as goal

pub returns : goal.returns
returns c = flat_diagram (Negates _ _ _ _ _) c.not.ensures _ c.from.ensures
