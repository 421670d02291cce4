use Rattle.writing.proofs.Laws.{still_begins, still_part, still_none}
use Rattle.setting_blocks.proofs.Words.{bytes_next, bytes_none}
use Rattle.setting_blocks.proofs.number.put_words.Goals as goal

pub loop-word-init : goal.loop-word-init
loop-word-init c = still_begins _ _ _

pub loop-word-preserved : goal.loop-word-preserved
loop-word-preserved c = still_part c.loop-word.invariant _ _ (bytes_next _ _ c.loop-word-test.true) c.put_four-place.ensures

pub returns : goal.returns
returns c = still_none c.loop-word.invariant (bytes_none _ _ c.loop-word-test.false)
