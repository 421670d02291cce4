use mathlib.Core.Path.{◌≡◌}
use Prim.Native.Nat.{◌≤◌}
use lib.ListN.{length}
use Rattle.recounts.specs.Kept.{Renewed}
use Rattle.recounts.proofs.renewal.renew_all.Given as goal

abbrev pub invariant-loop-c : goal.invariant-loop-c
invariant-loop-c l = Renewed l.words l.initial.room l.changed l.room l.c 0 × (l.c ≤ l.vars) × (length l.changed ≡ length l.initial.changed)
