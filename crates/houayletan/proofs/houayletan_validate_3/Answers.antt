use Rattle.diagram.specs.Verdict.{Checked}
use Rattle.houayletan.proofs.Flattening.{flat_verdict}
use Rattle.houayletan.proofs.houayletan_validate_3.Goals as goal

pub returns : goal.returns
returns c = flat_verdict (Checked _ _ _ _) c.validate.ensures _ c.from.ensures
