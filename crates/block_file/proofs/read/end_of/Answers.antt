use Rattle.block_file.proofs.Steps.{end_over, end_right}
use Rattle.block_file.proofs.read.end_of.Goals as goal

pub returns-then-number-len : goal.returns-then-number-len
returns-then-number-len c = end_over _ _ _ c.if-number-len.true

pub returns : goal.returns
returns c = end_right _ _ _ c.if-number-len.false
