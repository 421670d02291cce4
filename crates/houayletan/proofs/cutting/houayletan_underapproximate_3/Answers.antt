use Rattle.list_cuts.specs.Approximates.{Approximates}
use Rattle.houayletan.proofs.Flattening.{flat_diagram}
use Rattle.houayletan.proofs.cutting.houayletan_underapproximate_3.Goals as goal

pub returns : goal.returns
returns c = flat_diagram (Approximates _ _ _ _ _ _ _) c.underapproximate.ensures _ c.from.ensures
