use Rattle.block_file.proofs.Storing.{narrow_hit, narrow_end}
use Rattle.block_file.proofs.write.first_wide.Goals as goal

pub returns-then-word-gt-WIDEST : goal.returns-then-word-gt-WIDEST
returns-then-word-gt-WIDEST c = narrow_hit c.loop-p.invariant c.loop-p-test.true c.word.ensures c.if-word-gt-WIDEST.true

pub returns : goal.returns
returns c = narrow_end c.loop-p.invariant c.loop-p-test.false
