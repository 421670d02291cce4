use lib.Seq.{length-take-le}
use mathlib.Core.Path.{sym}
use Rattle.cuts_run.proofs.one_line.Goals as goal

pub slice_bounds-run_line-end-2 : goal.slice_bounds-run_line-end-2
slice_bounds-run_line-end-2 c = sym (length-take-le c.words_of-found.result.count c.words_of-found.new.words c.words_of-found.ensures.0)
