use Rattle.targets.specs.Targets.{UnderToSize}
use Rattle.houayletan.proofs.Flattening.{flat_target_flagged}
use Rattle.houayletan.proofs.cutting.houayletan_underapproximate_to_size_3.Goals as goal

pub returns : goal.returns
returns c = flat_target_flagged UnderToSize c.underapproximate_to_size-cut.ensures c.flag.ensures _ c.from.ensures
