use lib.ListN.{take}
use Prim.Native.Nat.{◌≤◌}
use Rattle.cuts.specs.Marks.{Marked}
use Rattle.trials.proofs.first.mark_first.Given as goal

abbrev pub invariant-loop-i : goal.invariant-loop-i
invariant-loop-i l = Marked (take l.i (take l.count l.initial.room)) l.nodes l.initial.room l.room × (l.i ≤ l.count)
