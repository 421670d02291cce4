use Rattle.worths.proofs.Places.{worths_none, worths_next, worths_to}
use native.Mathlib.Numerals.{add-one}
use mathlib.Core.Path.{refl, sym, ◌∙◌}
use native.Mathlib.Omega.{arith}
use Rattle.worths.proofs.sums.note_all.Goals as goal

pub loop-place-init : goal.loop-place-init
loop-place-init c = (worths_none c.requires.0, omega arith, refl)

pub note_pair-requires : goal.note_pair-requires
note_pair-requires c = worths_next c.loop-place.invariant.0 c.loop-place-test.true c.requires.1 c.requires.2

pub loop-place-preserved : goal.loop-place-preserved
loop-place-preserved c = (worths_to c.note_pair.ensures (sym (add-one _)), omega (arith, c.loop-place-test.true), c.note_pair.auto.table ∙ c.loop-place.invariant.2)

pub shape_of-table : goal.shape_of-table
shape_of-table c = c.loop-place.invariant.2

pub returns : goal.returns
returns c = worths_to c.loop-place.invariant.0 (omega (arith, c.loop-place-test.false, c.loop-place.invariant.1))
