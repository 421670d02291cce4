use mathlib.Core.Path.{refl, ◌∙◌}
use Rattle.weights.proofs.Ascent.{give_asks, give_done}
use native.Mathlib.Omega.{arith}
use Rattle.weights.proofs.up.give.Goals as goal

pub place-to-requires : goal.place-to-requires
place-to-requires c = omega (arith, c.requires.inside)

pub place-requires : goal.place-requires
place-requires c = omega (arith, c.requires.node)

pub skipped-requires : goal.skipped-requires
skipped-requires c = c.requires.above

pub add_shifted-requires : goal.add_shifted-requires
add_shifted-requires c = give_asks c.requires c.place-to.ensures refl refl c.place.ensures c.skipped.ensures (c.words_for.ensures ∙ rw c.var_of-there.ensures refl)

pub returns : goal.returns
returns c = give_done c.requires c.place-to.ensures refl refl c.place.ensures c.skipped.ensures (c.words_for.ensures ∙ rw c.var_of-there.ensures refl) c.add_shifted.ensures
