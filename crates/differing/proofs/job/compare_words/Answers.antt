use Prim.Native.Nat.{ℕ}
use mathlib.Core.Path.{sym}
use lib.ListN.{length-replicate}
use Rattle.report.specs.Report.{room_lent}
use Rattle.differing.specs.Differing.{table_lent}
use Rattle.differing.proofs.Answering.{says}
use Rattle.differing.proofs.job.compare_words.Goals as goal

-- By a lemma: to count the words of room and table one by one would take gigabytes.
pub slice_bounds-compare-end : goal.slice_bounds-compare-end
slice_bounds-compare-end c = sym (length-replicate {A = ℕ} room_lent 0)

pub slice_bounds-compare-end-2 : goal.slice_bounds-compare-end-2
slice_bounds-compare-end-2 c = sym (length-replicate {A = ℕ} table_lent 0)

pub returns : goal.returns
returns c = says _ _ c.compare.ensures (length-replicate {A = ℕ} room_lent 0) (length-replicate {A = ℕ} table_lent 0)
