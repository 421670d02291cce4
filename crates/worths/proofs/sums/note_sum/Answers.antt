use Rattle.worths.proofs.Adding.{part_at, noting_placed, child_placed, child_above, here_fits, sum_asks, sum_done}
use Rattle.worths.proofs.Places.{place_small}
use mathlib.Core.Bool.{true, false}
use native.Mathlib.Omega.{arith}
use Rattle.worths.proofs.sums.note_sum.Goals as goal

pub part-low-requires : goal.part-low-requires
part-low-requires c = (child_placed c.requires.0 c.requires.1 false c.low_at.ensures, child_above c.requires.0 c.requires.1 false c.level_at-here.ensures c.low_at.ensures)

pub part-high-requires : goal.part-high-requires
part-high-requires c = (child_placed c.requires.0 c.requires.1 true c.high_at.ensures, child_above c.requires.0 c.requires.1 true c.level_at-here.ensures c.high_at.ensures)

pub count_from-requires : goal.count_from-requires
count_from-requires c = place_small (noting_placed c.requires.0 c.requires.1)

pub overflow_sub-vars : goal.overflow_sub-vars
overflow_sub-vars c = omega (arith, here_fits c.requires.0 c.requires.1 c.level_at-here.ensures)

pub add_shifted-requires : goal.add_shifted-requires
add_shifted-requires c = sum_asks c.requires.0 c.requires.1 c.level_at-here.ensures c.low_at.ensures (part_at c.part-low.ensures) c.high_at.ensures (part_at c.part-high.ensures) c.count_from.ensures c.words_for.ensures

pub returns : goal.returns
returns c = sum_done c.requires.0 c.requires.1 c.level_at-here.ensures c.low_at.ensures (part_at c.part-low.ensures) c.high_at.ensures (part_at c.part-high.ensures) c.count_from.ensures c.words_for.ensures c.add_shifted.ensures
