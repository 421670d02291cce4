use mathlib.Core.Path.{◌≡◌}
use Prim.Native.Nat.{◌≤◌, ◌-◌}
use lib.ListN.{length}
use Rattle.diagram.specs.Diagram.{size}
use Rattle.weights.specs.Passes.{Passing}
use Rattle.weights.proofs.up.pass_all.Given as goal

abbrev pub invariant-loop-c : goal.invariant-loop-c
invariant-loop-c l = Passing l.words l.base l.room l.c (size l.words) × (l.c ≤ l.vars) × (length l.room ≡ length l.initial.room)
