use Rattle.negation.proofs.Words.{Written}
use Rattle.negation.specs.Negation.{negated}
use Rattle.negation.proofs.negate.Given as goal

abbrev pub invariant-loop-i : goal.invariant-loop-i
invariant-loop-i l = Written (negated l.words) l.initial.output l.i l.output
