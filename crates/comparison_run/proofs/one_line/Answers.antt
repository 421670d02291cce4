use mathlib.Core.Path.{sym}
use lib.Seq.{length-take-le}
use native.Mathlib.Omega.{arith}
use Rattle.comparison_run.proofs.one_line.Goals as goal

pub slice_bounds-run_case-end-4 : goal.slice_bounds-run_case-end-4
slice_bounds-run_case-end-4 c = sym (length-take-le c.least-lent_room.result c.args.room.now (omega (arith, c.least-lent_room.ensures.1)))

pub slice_bounds-run_case-end-6 : goal.slice_bounds-run_case-end-6
slice_bounds-run_case-end-6 c = sym (length-take-le c.least-lent_table.result c.args.table.now (omega (arith, c.least-lent_table.ensures.1)))

pub returns : goal.returns
returns c = (omega (arith, c.number-first.ensures.0, c.words_of-found.ensures.1), omega (arith, c.words_of-found.ensures.2))
