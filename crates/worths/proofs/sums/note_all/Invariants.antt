use Rattle.worths.specs.Worth.{Worths}
use Prim.Native.Nat.{◌≤◌}
use mathlib.Core.Path.{◌≡◌}
use lib.ListN.{length}
use Rattle.worths.proofs.sums.note_all.Given as goal

abbrev pub invariant-loop-place : goal.invariant-loop-place
invariant-loop-place l = Worths l.first l.second l.capacity l.table l.place × (l.place ≤ l.count) × (length l.table ≡ length l.initial.table)
