use native.Mathlib.Numerals.{unary_clauses}
use Rattle.writing.proofs.Laws.{still_begins, still_next, still_none}
use Rattle.setting_blocks.proofs.Words.{words_next, words_none}
use Rattle.setting_blocks.proofs.number.get_words.Goals as goal

pub loop-i-init : goal.loop-i-init
loop-i-init c = simp unary_clauses (still_begins _ _ _)

pub loop-i-preserved : goal.loop-i-preserved
loop-i-preserved c = still_next c.loop-i.invariant (words_next _ _ _ _ c.loop-i-test.true c.get_four.ensures) c.put-place.ensures

pub returns : goal.returns
returns c = still_none c.loop-i.invariant (words_none _ _ _ _ c.loop-i-test.false)
