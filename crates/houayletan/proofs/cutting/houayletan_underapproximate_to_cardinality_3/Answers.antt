use Rattle.targets.specs.Targets.{UnderToCount}
use Rattle.houayletan.proofs.Flattening.{flat_target_flagged}
use Rattle.houayletan.proofs.cutting.houayletan_underapproximate_to_cardinality_3.Goals as goal

pub returns : goal.returns
returns c = flat_target_flagged UnderToCount c.underapproximate_to_cardinality.ensures c.flag.ensures _ c.from.ensures
