use Prim.Native.Nat.{◌≤◌}
use Rattle.diagram.proofs.Count.{Scanned}
use Rattle.pool.specs.Pool.{slot_count}
use Rattle.pool_check.proofs.Returns.{isUnnamed}
use Rattle.pool_check.proofs.nodes.are_names.Given as goal

abbrev pub invariant-loop-k : goal.invariant-loop-k
invariant-loop-k l = Scanned (isUnnamed l.table l.slots) 0 l.k × (l.k ≤ slot_count)
