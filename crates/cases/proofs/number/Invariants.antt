use Rattle.cases.proofs.Reading.{Digits}
use Rattle.cases.proofs.number.Given as goal

abbrev pub invariant-loop-at : goal.invariant-loop-at
invariant-loop-at l = Digits l.text l.from l.value l.at
