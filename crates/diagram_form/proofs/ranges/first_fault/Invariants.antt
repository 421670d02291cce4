use Prim.Native.Nat.{◌/◌, ◌≤◌}
use lib.ListN.{length}
use Rattle.diagram.specs.Faults.{is_faulty}
use Rattle.diagram.proofs.Count.{Scanned}
use Rattle.diagram_form.proofs.ranges.first_fault.Given as goal

abbrev pub invariant-loop-p : goal.invariant-loop-p
invariant-loop-p l = Scanned (is_faulty l.nodes l.vars l.stretch) 0 l.p × (l.p ≤ length l.stretch / 3)
