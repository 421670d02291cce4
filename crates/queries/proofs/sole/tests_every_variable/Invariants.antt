use Prim.Native.Nat.{◌-◌}
use Rattle.diagram.specs.Diagram.{var_of, vars as varsOf}
use Rattle.queries.proofs.SoleWalk.{Testing}
use Rattle.queries.proofs.sole.tests_every_variable.Given as goal

abbrev pub invariant-loop-var : goal.invariant-loop-var
invariant-loop-var l = Testing l.words l.expected.0 l.node.0

abbrev pub decreases-loop-var : goal.decreases-loop-var
decreases-loop-var l = varsOf l.words - var_of l.words l.node.0
