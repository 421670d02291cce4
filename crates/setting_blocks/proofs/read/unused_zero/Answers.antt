use Rattle.setting_blocks.proofs.Answers.{unused_flagged, unused_sum}
use Rattle.setting_blocks.proofs.read.unused_zero.Goals as goal

pub returns-then-unused_flag-ne0 : goal.returns-then-unused_flag-ne0
returns-then-unused_flag-ne0 c = unused_flagged _ c.unused_flag.ensures c.if-unused_flag-ne0.true

pub returns : goal.returns
returns c = unused_sum c.args.block.now c.unused_flag.ensures c.if-unused_flag-ne0.false c.sum.ensures
