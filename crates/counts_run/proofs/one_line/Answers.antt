use Prim.Native.Nat.{◌≤◌}
use mathlib.Core.Path.{sym}
use lib.ListN.{length}
use lib.Seq.{length-take-le}
use Rattle.counts_run.proofs.one_line.Goals as goal

pub slice_bounds-run_case-end-then-line_ends-3 : goal.slice_bounds-run_case-end-then-line_ends-3
slice_bounds-run_case-end-then-line_ends-3 c =
    let l : c.least-lent.result ≤ length c.args.room.now = c.least-lent.ensures.1 in
    sym (length-take-le c.least-lent.result c.args.room.now l)

pub slice_bounds-run_case-end-3 : goal.slice_bounds-run_case-end-3
slice_bounds-run_case-end-3 c =
    sym (length-take-le c.words_of-found.result.count c.words_of-found.new.words c.words_of-found.ensures.0)

pub slice_bounds-run_case-end-5 : goal.slice_bounds-run_case-end-5
slice_bounds-run_case-end-5 c =
    let l : c.least-lent.result ≤ length c.args.room.now = c.least-lent.ensures.1 in
    sym (length-take-le c.least-lent.result c.args.room.now l)
