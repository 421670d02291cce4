use Rattle.trials.proofs.Giving.{given}
use native.Mathlib.Omega.{arith}
use Rattle.trials.proofs.answers.give.Goals as goal

pub overflow_mul-most : goal.overflow_mul-most
overflow_mul-most c = omega (arith, c.requires.few)

pub overflow_mul-count : goal.overflow_mul-count
overflow_mul-count c = omega (arith, c.requires.few, c.requires.nodes)

pub copy-requires : goal.copy-requires
copy-requires c = (omega (arith, c.requires.nodes, c.requires.long), omega (arith, c.requires.nodes, c.requires.output))

pub overflow_mul-most-2 : goal.overflow_mul-most-2
overflow_mul-most-2 c = omega (arith, c.requires.few)

pub returns : goal.returns
returns c = given c.requires c.copy.auto.output c.copy.ensures c.clear.ensures
