use Rattle.queries.specs.Queries.{Tells}
use Rattle.houayletan.proofs.Flattening.{flat_amount}
use Rattle.houayletan.proofs.asking.houayletan_num_vars_3.Goals as goal

pub returns : goal.returns
returns c = flat_amount (Tells _ _ _ _ _) c.num_vars.ensures _ c.from.ensures
