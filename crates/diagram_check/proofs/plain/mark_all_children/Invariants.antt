use Prim.Native.Nat.{◌+◌, ◌-◌, ◌≤◌}
use mathlib.Core.Path.{◌≡◌}
use lib.ListN.{length}
use Rattle.diagram.specs.Marking.{Linked}
use Rattle.diagram_check.proofs.plain.mark_all_children.Given as goal

abbrev pub invariant-loop-node : goal.invariant-loop-node
invariant-loop-node l = Linked l.words l.room l.node × (length l.room ≡ length l.initial.room) × (l.node ≤ 2 + (l.nodes - 2))
