use Prim.Native.Nat.{◌-◌, ◌≤◌}
use Rattle.recounts.specs.Kept.{Turned}
use Rattle.recounts.proofs.turning.turn.Given as goal

abbrev pub invariant-loop-p : goal.invariant-loop-p
invariant-loop-p l = Turned l.words l.initial.room l.room l.p × (2 ≤ l.p) × (l.p ≤ l.nodes)
