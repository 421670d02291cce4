use Rattle.cases.proofs.Runs.{Run}
use Rattle.cases.proofs.run_of.Given as goal

abbrev pub invariant-loop-i : goal.invariant-loop-i
invariant-loop-i l = Run l.room l.word l.from l.i
