use Rattle.worths.proofs.Places.{low_small, high_small, either_done}
use mathlib.Core.Path.{◌≡◌, refl, ◌∙◌}
use mathlib.Core.Bool.{◌||◌}
use Rattle.worths.proofs.sums.note_either.Goals.{then-low, else-low}
use Rattle.worths.proofs.sums.note_either.Goals as goal

pub differs_at-low-requires : goal.differs_at-low-requires
differs_at-low-requires c = low_small c.requires.0 c.requires.1 c.low_at.ensures

pub differs_at-high-requires : goal.differs_at-high-requires
differs_at-high-requires c = high_small c.requires.0 c.requires.1 c.high_at.ensures

pub returns : goal.returns
returns c =
    let is : c.if-low.note_flag ≡ (c.differs_at-low.result || c.differs_at-high.result) = elim c.if-low.branch [
      | then-low w ↦ w.note_flag-is ∙ rw w.if-low.true refl
      | else-low w ↦ w.note_flag-is ∙ rw w.if-low.false refl
    ] in
    either_done c.requires.0 c.requires.1 c.low_at.ensures c.differs_at-low.ensures c.high_at.ensures c.differs_at-high.ensures is c.note_flag.ensures
