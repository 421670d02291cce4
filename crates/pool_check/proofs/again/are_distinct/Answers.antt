use native.Mathlib.Omega.{arith}
use Prim.Native.Nat.{◌*◌}
use Rattle.diagram.specs.Limits.{max_nodes}
use Rattle.pool_check.proofs.Chaining.{linked_begin}
use Rattle.pool_check.proofs.again.are_distinct.Goals as goal

pub distinct_in-requires : goal.distinct_in-requires
distinct_in-requires c = linked_begin c.args.table.now (2 * max_nodes) c.requires (omega arith)
