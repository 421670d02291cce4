use Rattle.pool_check.proofs.Chaining.{Seeking}
use Rattle.pool_check.proofs.again.is_in.Given as goal

abbrev pub invariant-loop-q : goal.invariant-loop-q
invariant-loop-q l = Seeking l.table l.place.0 l.q

abbrev pub decreases-loop-q : goal.decreases-loop-q
decreases-loop-q l = l.q
