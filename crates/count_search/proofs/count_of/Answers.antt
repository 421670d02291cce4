use Rattle.trials.proofs.Early.{searching_few}
use Rattle.count_search.proofs.Aims.{counts_asks, counts_done}
use native.Mathlib.Omega.{arith}
use Rattle.count_search.proofs.count_of.Goals as goal

pub overflow_mul-nodes : goal.overflow_mul-nodes
overflow_mul-nodes c = omega (arith, searching_few c.requires.0)

pub overflow_mul-nodes-2 : goal.overflow_mul-nodes-2
overflow_mul-nodes-2 c = omega (arith, searching_few c.requires.0)

pub offset_bounds-room-nodes : goal.offset_bounds-room-nodes
offset_bounds-room-nodes c = omega (arith, searching_few c.requires.0)

pub slice_bounds-total-count : goal.slice_bounds-total-count
slice_bounds-total-count c = omega arith

pub total-requires : goal.total-requires
total-requires c = counts_asks c.requires.0 c.requires.1

pub returns : goal.returns
returns c = counts_done c.requires.0 c.total.auto.room c.total.ensures
