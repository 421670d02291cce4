use mathlib.Core.Path.{refl, ◌∙◌}
use Rattle.weights.proofs.Ascent.{take_asks, take_done}
use native.Mathlib.Omega.{arith}
use Rattle.weights.proofs.up.weigh_node.Goals as goal

pub place-requires : goal.place-requires
place-requires c = omega (arith, c.requires.inside)

pub place-requires-2 : goal.place-requires-2
place-requires-2 c = omega (arith, c.requires.inside, c.requires.before)

pub overflow_sub-all : goal.overflow_sub-all
overflow_sub-all c = omega (arith, c.requires.level, c.var_of-here.ensures, c.var_of-all.ensures)

pub multiply_at-requires : goal.multiply_at-requires
multiply_at-requires c = take_asks c.requires c.place.ensures (c.words_for.ensures ∙ rw c.var_of-here.ensures refl) c.place-2.ensures (c.words_for-2.ensures ∙ rw (c.var_of-here.ensures, c.var_of-all.ensures) refl)

pub returns : goal.returns
returns c = take_done c.requires c.place.ensures (c.words_for.ensures ∙ rw c.var_of-here.ensures refl) c.place-2.ensures (c.words_for-2.ensures ∙ rw (c.var_of-here.ensures, c.var_of-all.ensures) refl) c.multiply_at.ensures
