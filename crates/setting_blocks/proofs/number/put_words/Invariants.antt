use lib.ListN.{drop}
use Rattle.writing.proofs.Laws.{Still}
use Rattle.setting_blocks.specs.Settings.{words_bytes}
use Rattle.setting_blocks.proofs.number.put_words.Given as goal

abbrev pub invariant-loop-word : goal.invariant-loop-word
invariant-loop-word l = Still (words_bytes l.words) l.initial.out l.at (words_bytes (drop l.word-index l.words)) l.out l.place
