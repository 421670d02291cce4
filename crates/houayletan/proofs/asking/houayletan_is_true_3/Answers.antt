use Rattle.houayletan.proofs.Flattening.{flat_answer}
use Rattle.houayletan.proofs.asking.houayletan_is_true_3.Goals as goal

pub returns : goal.returns
returns c = flat_answer c.is_true.ensures _ c.from.ensures
