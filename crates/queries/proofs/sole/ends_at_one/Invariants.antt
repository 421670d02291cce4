use Prim.Native.Nat.{ℕ, ◌-◌}
use Rattle.diagram.specs.Diagram.{var_of, vars}
use Rattle.queries.proofs.SoleWalk.{Along}
use Rattle.queries.proofs.sole.ends_at_one.Given as goal

abbrev pub invariant-loop-node : goal.invariant-loop-node
invariant-loop-node l = (i : ℕ) × Along l.words i l.node.0

abbrev pub decreases-loop-node : goal.decreases-loop-node
decreases-loop-node l = vars l.words - var_of l.words l.node.0
