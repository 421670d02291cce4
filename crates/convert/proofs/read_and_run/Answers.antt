use lib.Seq.{length-take-le}
use mathlib.Core.Path.{sym}
use Rattle.convert.proofs.read_and_run.Goals as goal

pub slice_bounds-run-end : goal.slice_bounds-run-end
slice_bounds-run-end c = sym (length-take-le c.read_input-length.result _ c.read_input-length.ensures)
