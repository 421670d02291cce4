use lib.Seq.{length-take-le}
use mathlib.Core.Path.{sym}
use Rattle.cuts_run.proofs.run_line.Goals as goal

pub slice_bounds-run_case-end-4 : goal.slice_bounds-run_case-end-4
slice_bounds-run_case-end-4 c = sym (length-take-le c.least-lent_room.result c.args.room.now c.least-lent_room.ensures.1)

pub slice_bounds-run_case-end-6 : goal.slice_bounds-run_case-end-6
slice_bounds-run_case-end-6 c = sym (length-take-le c.least-lent_output.result c.args.output.now c.least-lent_output.ensures.1)
