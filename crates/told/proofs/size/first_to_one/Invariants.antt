use Prim.Native.Nat.{◌≤◌, max}
use Rattle.diagram.proofs.Count.{Scanned}
use Rattle.told.specs.Told.{to_one}
use Rattle.told.proofs.size.first_to_one.Given as goal

abbrev pub invariant-loop-p : goal.invariant-loop-p
invariant-loop-p l = Scanned (to_one l.words) 2 l.p × (l.p ≤ max l.nodes 2)
