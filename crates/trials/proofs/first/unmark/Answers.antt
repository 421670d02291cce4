use Rattle.trials.proofs.Firsts.{unmarked}
use native.Mathlib.Omega.{arith}
use Rattle.trials.proofs.first.unmark.Goals as goal

pub overflow_mul-nodes : goal.overflow_mul-nodes
overflow_mul-nodes c = omega (arith, c.requires.few)

pub offset_bounds-room-nodes : goal.offset_bounds-room-nodes
offset_bounds-room-nodes c = omega (arith, c.requires.few)

pub slice_bounds-clear-count : goal.slice_bounds-clear-count
slice_bounds-clear-count c = omega arith

pub returns : goal.returns
returns c = unmarked c.requires c.clear.ensures
