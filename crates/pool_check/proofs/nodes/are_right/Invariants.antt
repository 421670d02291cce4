use Rattle.diagram.proofs.Count.{Scanned}
use Rattle.pool.specs.Pool.{is_right}
use Rattle.pool.proofs.Testing.{fails}
use Rattle.pool_check.proofs.nodes.are_right.Given as goal

abbrev pub invariant-loop-p : goal.invariant-loop-p
invariant-loop-p l = Scanned (fails l.table (is_right l.table)) 2 l.p
