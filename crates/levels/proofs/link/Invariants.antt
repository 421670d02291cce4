use mathlib.Core.Path.{◌≡◌}
use Prim.Native.Nat.{◌≤◌}
use lib.ListN.{length}
use Rattle.levels.specs.Chains.{Linked}
use Rattle.levels.proofs.link.Given as goal

abbrev pub invariant-loop-p : goal.invariant-loop-p
invariant-loop-p l = (2 ≤ l.p) × (l.p ≤ l.nodes) × Linked l.words l.heads l.room l.p × (length l.heads ≡ length l.initial.heads) × (length l.room ≡ length l.initial.room)
