use Rattle.houayletan.proofs.Flattening.{flat_answer}
use Rattle.houayletan.proofs.asking.houayletan_is_false_3.Goals as goal

pub returns : goal.returns
returns c = flat_answer c.is_false.ensures _ c.from.ensures
