use mathlib.Core.Path.{refl}
use Rattle.cuts.proofs.Marking.{mark_start, mark_on, marked_all}
use Rattle.cuts.proofs.marks.mark_all.Goals as goal

pub loop-pointer-init : goal.loop-pointer-init
loop-pointer-init c = mark_start c.args.list.now c.args.most c.args.room.now

pub loop-pointer-preserved : goal.loop-pointer-preserved
loop-pointer-preserved c = mark_on c.args.list.now c.args.most c.args.room.now c.loop-pointer.invariant c.requires c.loop-pointer-test.true refl c.mark.ensures
