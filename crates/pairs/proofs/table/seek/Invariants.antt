use Rattle.pairs.proofs.Entries.{SeekIn}
use Rattle.pairs.proofs.table.seek.Given as goal

abbrev pub invariant-loop-x : goal.invariant-loop-x
invariant-loop-x l = SeekIn l.capacity l.table l.count l.key l.x

abbrev pub decreases-loop-x : goal.decreases-loop-x
decreases-loop-x l = l.x
