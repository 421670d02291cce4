use Rattle.targets.specs.Targets.{OverToCount}
use Rattle.houayletan.proofs.Flattening.{flat_target_flagged}
use Rattle.houayletan.proofs.cutting.houayletan_overapproximate_to_cardinality_3.Goals as goal

pub returns : goal.returns
returns c = flat_target_flagged OverToCount c.overapproximate_to_cardinality.ensures c.flag.ensures _ c.from.ensures
