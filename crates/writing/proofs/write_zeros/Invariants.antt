use Rattle.writing.proofs.Laws.{Still}
use Rattle.std.proofs.Common.{replicate, ◌-◌}
use Rattle.writing.proofs.write_zeros.Given as goal

abbrev pub invariant-loop : goal.invariant-loop
invariant-loop l = Still (replicate l.count 0) l.initial.out l.at (replicate (l.count - l.counter) 0) l.out l.place
