use Prim.Native.Nat.{◌+◌, ◌-◌, ◌≤◌}
use Rattle.diagram.proofs.Count.{Scanned}
use Rattle.diagram.specs.Verdict.{is_broken}
use Rattle.diagram_reach.proofs.first_broken.Given as goal

abbrev pub invariant-loop-node : goal.invariant-loop-node
invariant-loop-node l = Scanned (is_broken l.words) 2 l.node × (l.node ≤ 2 + (l.nodes - 2))
