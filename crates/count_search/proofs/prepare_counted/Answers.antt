use Rattle.count_search.proofs.Aims.{weighing_few, weighing_rises, weighing_fits, weighing_done}
use native.Mathlib.Omega.{arith}
use Rattle.count_search.proofs.prepare_counted.Goals as goal

pub overflow_mul-nodes : goal.overflow_mul-nodes
overflow_mul-nodes c = omega (arith, weighing_few c.requires)

pub overflow_mul-nodes-2 : goal.overflow_mul-nodes-2
overflow_mul-nodes-2 c = omega (arith, weighing_few c.requires)

pub offset_bounds-room-nodes : goal.offset_bounds-room-nodes
offset_bounds-room-nodes c = omega (arith, weighing_few c.requires)

pub slice_bounds-weigh_counted-count : goal.slice_bounds-weigh_counted-count
slice_bounds-weigh_counted-count c = omega arith

pub weigh_counted-requires : goal.weigh_counted-requires
weigh_counted-requires c = weighing_rises c.requires

pub prioritise-requires : goal.prioritise-requires
prioritise-requires c = weighing_fits c.requires c.weigh_counted.auto.part c.weigh_counted.ensures

pub returns : goal.returns
returns c = weighing_done c.requires c.weigh_counted.auto.part c.weigh_counted.ensures c.prioritise.ensures
