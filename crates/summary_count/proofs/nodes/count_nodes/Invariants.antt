use Prim.Native.Nat.{◌≤◌}
use Rattle.diagram.specs.Diagram.{size}
use Rattle.summary_count.proofs.Places.{Below}
use Rattle.summary_count.proofs.nodes.count_nodes.Given as goal

abbrev pub invariant-loop-p : goal.invariant-loop-p
invariant-loop-p l = Below l.table l.initial.summary l.p l.summary × (2 ≤ l.p) × (l.p ≤ size l.table)
