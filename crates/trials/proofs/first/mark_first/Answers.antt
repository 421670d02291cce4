use lib.ListN.{take}
use Rattle.trials.proofs.Firsts.{first_markable, first_long, first_read}
use Rattle.cuts.proofs.Marking.{mark_start, mark_on, marked_all}
use native.Mathlib.Omega.{arith}
use Rattle.trials.proofs.first.mark_first.Goals as goal

pub loop-i-init : goal.loop-i-init
loop-i-init c = (mark_start (take c.args.count c.args.room.now) c.args.nodes c.args.room.now, omega arith)

pub mark-requires : goal.mark-requires
mark-requires c = c.requires.few

pub loop-i-preserved : goal.loop-i-preserved
loop-i-preserved c = (mark_on (take c.args.count c.args.room.now) c.args.nodes c.args.room.now c.loop-i.invariant.0 (first_markable c.requires) (omega (arith, first_long c.requires, c.loop-i-test.true)) (first_read c.requires c.loop-i.invariant.0 c.loop-i-test.true c.word.ensures) c.mark.ensures, omega arith)

pub shape_of-room : goal.shape_of-room
shape_of-room c = c.loop-i.invariant.0.kept

pub returns : goal.returns
returns c = marked_all (take c.args.count c.args.room.now) {i = c.loop-i.i} c.loop-i.invariant.0 (omega (arith, first_long c.requires))
