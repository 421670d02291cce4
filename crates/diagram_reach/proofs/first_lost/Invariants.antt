use Prim.Native.Nat.{◌+◌, ◌-◌, ◌≤◌}
use Rattle.diagram.proofs.Count.{Scanned}
use lib.ListN.{get_or}
use lib.Dec.{eqb}
use Rattle.diagram_reach.proofs.first_lost.Given as goal

abbrev pub invariant-loop-p : goal.invariant-loop-p
invariant-loop-p l = Scanned (λ q. eqb (get_or l.room q 0) 0) 2 l.p × (l.p ≤ 2 + (l.nodes - 2))
