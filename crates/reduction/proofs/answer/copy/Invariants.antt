use lib.ListN.{length, get_or, drop}
use mathlib.Core.Path.{◌≡◌}
use Prim.Native.Nat.{ℕ, ◌+◌, ◌<◌, ◌≤◌}
use Rattle.reduction.proofs.answer.copy.Given as goal

abbrev pub invariant-loop-i : goal.invariant-loop-i
invariant-loop-i l = (l.i ≤ l.count) × (length l.output ≡ length l.initial.output) × ((j : ℕ) → j < l.i → get_or l.output j 0 ≡ get_or l.room (l.from + j) 0) × (drop l.count l.output ≡ drop l.count l.initial.output)
