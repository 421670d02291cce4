use mathlib.Core.Path.{refl}
use native.Mathlib.Omega.{arith}
use Rattle.trials.proofs.answers.constantly.Goals as goal

pub overflow_mul-most : goal.overflow_mul-most
overflow_mul-most c = omega (arith, c.requires, c.most.ensures)

pub constant-made-requires : goal.constant-made-requires
constant-made-requires c = omega (arith, c.requires, c.most.ensures)

pub returns : goal.returns
returns c = record { room = rw c.most.ensures at c.constant-made.ensures.0; count = c.constant-made.ensures.1; trials = refl }
