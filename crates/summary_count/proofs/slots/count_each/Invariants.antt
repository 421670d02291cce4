use Rattle.summary_count.proofs.Turns.{Up}
use Rattle.summary_count.proofs.slots.count_each.Given as goal

abbrev pub invariant-loop-k : goal.invariant-loop-k
invariant-loop-k l = Up l.table l.slots l.initial.summary l.k l.summary l.work
