use lib.ListN.{take}
use Rattle.cuts.specs.Marks.{Marked}
use Rattle.cuts.proofs.marks.mark_all.Given as goal

abbrev pub invariant-loop-pointer : goal.invariant-loop-pointer
invariant-loop-pointer l = Marked (take l.pointer-index l.list) l.most l.initial.room l.room
