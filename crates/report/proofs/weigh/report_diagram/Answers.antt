use Rattle.report.specs.Report.{weights_lent, room_lent}
use lib.ListN.{length-replicate}
use mathlib.Core.Path.{sym}
use Prim.Native.Nat.{ℕ}
use Rattle.report.proofs.weigh.report_diagram.Goals as goal

pub slice_bounds-report_in-end : goal.slice_bounds-report_in-end
slice_bounds-report_in-end c = sym (length-replicate {A = ℕ} room_lent 0)

pub slice_bounds-report_in-end-2 : goal.slice_bounds-report_in-end-2
slice_bounds-report_in-end-2 c = sym (length-replicate {A = ℕ} weights_lent 0)

pub report_in-requires : goal.report_in-requires
report_in-requires c = (length-replicate {A = ℕ} room_lent 0, length-replicate {A = ℕ} weights_lent 0)

pub shape_of-out : goal.shape_of-out
shape_of-out c = c.report_in.auto.out

pub returns : goal.returns
returns c = c.report_in.ensures
