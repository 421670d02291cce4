use Rattle.diagram.proofs.Count.{Scanned}
use Rattle.pool.proofs.Testing.{fails}
use Rattle.pool_check.proofs.Marking.{is_marked}
use Rattle.pool_check.proofs.wanted.are_marked.Given as goal

abbrev pub invariant-loop-p : goal.invariant-loop-p
invariant-loop-p l = Scanned (fails l.table (is_marked l.marks)) 2 l.p
