use lib.ListN.{length}
use mathlib.Core.Path.{◌≡◌}
use Prim.Native.Nat.{◌-◌, ◌≤◌}
use Rattle.cuts.proofs.Sending.{Sofar}
use Rattle.cuts.specs.Marks.{marked_in}
use Rattle.diagram.specs.Diagram.{Formed}
use Rattle.cuts.proofs.send.send.Given as goal

abbrev pub invariant-loop-p : goal.invariant-loop-p
invariant-loop-p l = ((f : Formed l.words) → Sofar l.words f (marked_in l.most l.room) l.target.0 l.p l.sent) × (l.p ≤ l.nodes) × (length l.sent ≡ length l.initial.sent)
