use Rattle.targets.specs.Targets.{OverToSize}
use Rattle.houayletan.proofs.Flattening.{flat_target_flagged}
use Rattle.houayletan.proofs.cutting.houayletan_overapproximate_to_size_3.Goals as goal

pub returns : goal.returns
returns c = flat_target_flagged OverToSize c.overapproximate_to_size.ensures c.flag.ensures _ c.from.ensures
