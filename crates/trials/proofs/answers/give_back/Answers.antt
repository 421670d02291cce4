use Rattle.trials.proofs.Giving.{returning_asks, returned}
use native.Mathlib.Omega.{arith}
use Rattle.trials.proofs.answers.give_back.Goals as goal

pub overflow_mul-from : goal.overflow_mul-from
overflow_mul-from c = omega (arith, c.requires.giving.few, c.requires.giving.nodes, c.requires.giving.long)

pub overflow_mul-count : goal.overflow_mul-count
overflow_mul-count c = omega (arith, c.requires.giving.few, c.requires.giving.nodes, c.requires.giving.long)

pub overflow_add-from : goal.overflow_add-from
overflow_add-from c = omega (arith, c.requires.giving.few, c.requires.giving.nodes, c.requires.giving.long)

pub slice_bounds-negate-count : goal.slice_bounds-negate-count
slice_bounds-negate-count c = omega arith

pub negate-made-requires : goal.negate-made-requires
negate-made-requires c = returning_asks c.requires

pub overflow_mul-most : goal.overflow_mul-most
overflow_mul-most c = omega (arith, c.requires.giving.few, c.requires.giving.nodes, c.requires.giving.long)

pub returns : goal.returns
returns c = returned c.requires c.negate-made.ensures c.clear.ensures
