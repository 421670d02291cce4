use Rattle.weights.specs.Passes.{weights_from}
use Rattle.weights.proofs.Entries.{Copied}
use Rattle.weights.proofs.weigh.hand_over.Given as goal

abbrev pub invariant-loop-i : goal.invariant-loop-i
invariant-loop-i l = Copied (weights_from l.nodes) l.room l.initial.output l.i l.output
