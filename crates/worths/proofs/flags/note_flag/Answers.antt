use mathlib.Core.Path.{refl, ◌∙◌}
use Rattle.worths.proofs.flags.note_flag.Goals as goal

pub returns : goal.returns
returns c = c.put.ensures ∙ rw c.word_of.ensures refl
