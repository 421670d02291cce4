use mathlib.Core.Path.{sym}
use lib.Seq.{length-take-le}
use Rattle.weights_run.proofs.one_line.Goals as goal

pub slice_bounds-run_case-end-3 : goal.slice_bounds-run_case-end-3
slice_bounds-run_case-end-3 c = sym (length-take-le c.least-lent_output.result c.args.output.now c.least-lent_output.ensures.1)

pub slice_bounds-run_case-end-5 : goal.slice_bounds-run_case-end-5
slice_bounds-run_case-end-5 c = sym (length-take-le c.least-lent_room.result c.args.room.now c.least-lent_room.ensures.1)
