use Prim.Native.Nat.{◌+◌}
use mathlib.Core.Path.{◌≡◌}
use lib.ListN.{length}
use Rattle.diagram.specs.Diagram.{size, root, Formed}
use Rattle.diagram.specs.Marking.{zeros, Marked, Working}
use Rattle.diagram_reach.proofs.mark.Given as goal

abbrev pub invariant-loop-top : goal.invariant-loop-top
invariant-loop-top l = (l.nodes ≡ size l.words) × Formed l.words × Working l.words 0 l.room l.top × Marked l.room (root l.words) × (length l.room ≡ length l.initial.room)

abbrev pub decreases-loop-top : goal.decreases-loop-top
decreases-loop-top l = l.top + zeros (size l.words) l.room
