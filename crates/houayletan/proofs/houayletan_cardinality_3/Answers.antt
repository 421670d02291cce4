use Rattle.cardinality.specs.Cardinality.{CountsFloat}
use Rattle.houayletan.proofs.Flattening.{flat_float}
use Rattle.houayletan.proofs.houayletan_cardinality_3.Goals as goal

pub returns : goal.returns
returns c = flat_float (CountsFloat _ _ _) c.cardinality.ensures _ c.from.ensures
