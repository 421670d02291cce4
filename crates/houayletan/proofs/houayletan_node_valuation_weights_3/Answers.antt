use Rattle.weights.specs.Weighed.{Weighs}
use Rattle.houayletan.proofs.Flattening.{flat_verdict}
use Rattle.houayletan.proofs.houayletan_node_valuation_weights_3.Goals as goal

pub returns : goal.returns
returns c = flat_verdict (Weighs _ _ _ _ _) c.node_valuation_weights.ensures _ c.from.ensures
