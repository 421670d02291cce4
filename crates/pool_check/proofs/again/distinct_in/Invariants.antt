use mathlib.Core.Path.{◌≡◌}
use lib.ListN.{length}
use Rattle.diagram.proofs.Count.{Scanned}
use Rattle.pool.proofs.Testing.{fails}
use Rattle.pool_check.specs.Chains.{Linked}
use Rattle.pool_check.proofs.Chaining.{is_first}
use Rattle.pool_check.proofs.again.distinct_in.Given as goal

abbrev pub invariant-loop-p : goal.invariant-loop-p
invariant-loop-p l = Scanned (fails l.table (is_first l.table)) 2 l.p × Linked l.table l.chains l.p × (length l.chains ≡ length l.initial.chains)
