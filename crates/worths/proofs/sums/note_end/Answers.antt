use mathlib.Core.Path.{refl}
use Rattle.worths.proofs.Places.{end_done}
use Rattle.worths.proofs.sums.note_end.Goals as goal

pub returns : goal.returns
returns c = end_done c.requires.0 c.requires.1 c.count_from.ensures (rw (c.word_of-both.ensures, c.are_ones.ensures) at c.from.ensures) c.store.ensures c.note_flag.ensures refl
