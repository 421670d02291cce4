use native.Mathlib.Omega.{arith}
use Rattle.in_place_run.proofs.product_to_first.Goals as goal

pub multiply_at-requires : goal.multiply_at-requires
multiply_at-requires c = let e = c.requires.0 in let few = c.requires.1 in record { first = omega arith; second = omega arith; few = omega arith; target = omega arith; inside = omega arith }

pub multiply_at-requires-2 : goal.multiply_at-requires-2
multiply_at-requires-2 c = let e = c.requires.0 in let few = c.requires.1 in record { first = omega arith; second = omega arith; few = omega arith; target = omega arith; inside = omega arith }
