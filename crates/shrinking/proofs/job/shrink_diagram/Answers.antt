use Rattle.report.specs.Report.{room_lent}
use Rattle.diagram.specs.Limits.{max_words}
use Prim.Native.Nat.{ℕ}
use lib.ListN.{length-replicate}
use mathlib.Core.Path.{sym}
use Rattle.shrinking.proofs.job.shrink_diagram.Goals as goal

pub slice_bounds-shrink_in-end : goal.slice_bounds-shrink_in-end
slice_bounds-shrink_in-end c = sym (length-replicate {A = ℕ} room_lent 0)

pub slice_bounds-shrink_in-end-2 : goal.slice_bounds-shrink_in-end-2
slice_bounds-shrink_in-end-2 c = sym (length-replicate {A = ℕ} max_words 0)

pub shrink_in-requires : goal.shrink_in-requires
shrink_in-requires c = (length-replicate {A = ℕ} room_lent 0, length-replicate {A = ℕ} max_words 0)

pub shape_of-file : goal.shape_of-file
shape_of-file c = c.shrink_in.auto.file

pub shape_of-text : goal.shape_of-text
shape_of-text c = c.shrink_in.auto.text

pub returns : goal.returns
returns c = c.shrink_in.ensures
