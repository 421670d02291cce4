use Rattle.comparison.proofs.Search.{Finding}
use Rattle.comparison.proofs.smallest.smallest.Given as goal

abbrev pub invariant-loop-variable : goal.invariant-loop-variable
invariant-loop-variable l = Finding l.first l.second l.capacity l.table l.at l.variable l.number.words
