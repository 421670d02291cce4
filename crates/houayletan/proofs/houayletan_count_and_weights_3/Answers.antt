use Rattle.weights.specs.Weighed.{CountsAndWeighs}
use Rattle.houayletan.proofs.Flattening.{flat_count}
use Rattle.houayletan.proofs.houayletan_count_and_weights_3.Goals as goal

pub returns : goal.returns
returns c = flat_count (CountsAndWeighs _ _ _ _ _) c.count_and_weights.ensures _ c.from.ensures
