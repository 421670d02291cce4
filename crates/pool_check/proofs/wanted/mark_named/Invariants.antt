use Prim.Native.Nat.{◌≤◌}
use mathlib.Core.Path.{◌≡◌}
use lib.ListN.{length}
use Rattle.pool.specs.Pool.{slot_count}
use Rattle.pool_check.specs.Marks.{Marks, is_named}
use Rattle.pool_check.proofs.wanted.mark_named.Given as goal

abbrev pub invariant-loop-k : goal.invariant-loop-k
invariant-loop-k l = Marks (is_named l.slots l.k) l.marks × (l.k ≤ slot_count) × (length l.marks ≡ length l.initial.marks)
