use Rattle.writing.proofs.Laws.{wrote_one, wrote_out}
use Rattle.writing.proofs.put.Goals as goal

pub returns-then-at-out : goal.returns-then-at-out
returns-then-at-out g c = wrote_one _ _ _ c.if-at-out.true

pub returns : goal.returns
returns g c = wrote_out _ _ _ c.if-at-out.false
