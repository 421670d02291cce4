use Rattle.queries.specs.Queries.{Lists}
use Rattle.houayletan.proofs.Flattening.{flat_verdict}
use Rattle.houayletan.proofs.asking.houayletan_size_per_variable_3.Goals as goal

pub returns : goal.returns
returns c = flat_verdict (Lists _ _ _ _ _) c.size_per_variable.ensures _ c.from.ensures
