use mathlib.Core.Path.{refl, ◌∙◌}
use Rattle.counts.proofs.Shares.{part_at, share_asks, share_done}
use native.Mathlib.Omega.{arith}
use Rattle.counts.proofs.links.note_sum.Goals as goal

pub part-low-requires : goal.part-low-requires
part-low-requires c = (rw c.low_link_of.ensures c.requires.above_low, omega (arith, c.requires.low, c.low_link_of.ensures))

pub part-high-requires : goal.part-high-requires
part-high-requires c = (rw c.high_link_of.ensures c.requires.above_high, omega (arith, c.requires.high, c.high_link_of.ensures))

pub place-requires : goal.place-requires
place-requires c = omega (arith, c.requires.inside)

pub overflow_sub-all : goal.overflow_sub-all
overflow_sub-all c = omega (arith, c.requires.level, c.var_of-here.ensures, c.var_of-all.ensures)

pub add_shifted-requires : goal.add_shifted-requires
add_shifted-requires c = share_asks c.requires c.low_link_of.ensures (part_at c.part-low.ensures) c.high_link_of.ensures (part_at c.part-high.ensures) c.place.ensures (c.words_for.ensures ∙ rw (c.var_of-here.ensures, c.var_of-all.ensures) refl)

pub returns : goal.returns
returns c = share_done c.requires c.low_link_of.ensures (part_at c.part-low.ensures) c.high_link_of.ensures (part_at c.part-high.ensures) c.place.ensures (c.words_for.ensures ∙ rw (c.var_of-here.ensures, c.var_of-all.ensures) refl) c.add_shifted.ensures
