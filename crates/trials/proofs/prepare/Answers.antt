use Rattle.trials.proofs.Readying.{preparing_few, preparing_asks, preparing_fits, prepared}
use native.Mathlib.Omega.{arith}
use Rattle.trials.proofs.prepare.Goals as goal

pub overflow_mul-nodes : goal.overflow_mul-nodes
overflow_mul-nodes c = omega (arith, preparing_few c.requires)

pub overflow_mul-nodes-2 : goal.overflow_mul-nodes-2
overflow_mul-nodes-2 c = omega (arith, preparing_few c.requires)

pub offset_bounds-room-nodes : goal.offset_bounds-room-nodes
offset_bounds-room-nodes c = omega (arith, preparing_few c.requires)

pub slice_bounds-count_and_weigh-count : goal.slice_bounds-count_and_weigh-count
slice_bounds-count_and_weigh-count c = omega arith

pub count_and_weigh-requires : goal.count_and_weigh-requires
count_and_weigh-requires c = preparing_asks c.requires

pub prioritise-requires : goal.prioritise-requires
prioritise-requires c = preparing_fits c.requires c.count_and_weigh.ensures.0

pub returns : goal.returns
returns c = prepared c.requires c.count_and_weigh.ensures.0 c.prioritise.ensures
