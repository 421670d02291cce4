use Rattle.houayletan.proofs.Flattening.{flat_answer}
use Rattle.houayletan.proofs.asking.houayletan_is_clause_3.Goals as goal

pub returns : goal.returns
returns c = flat_answer c.is_clause.ensures _ c.from.ensures
