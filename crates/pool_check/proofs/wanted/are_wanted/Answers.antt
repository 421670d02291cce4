use Prim.Native.Nat.{suc}
use Rattle.diagram.specs.Limits.{max_nodes}
use Rattle.pool_check.proofs.Marking.{marks_begin}
use native.Mathlib.Omega.{arith}
use Rattle.pool_check.proofs.wanted.are_wanted.Goals as goal

pub wanted_in-requires : goal.wanted_in-requires
wanted_in-requires c = (c.requires, marks_begin (suc max_nodes) (omega arith))
