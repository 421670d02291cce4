use Prim.Native.Nat.{ℕ, ◌≤◌}
use lib.ListN.{length, replicate, length-replicate}
use native.Mathlib.Nat.{le_of_eq}
use Rattle.report.specs.Reported.{report_buffer}
use lib.Seq.{length-take-le}
use mathlib.Core.Path.{sym, ap, ◌∙◌}
use Rattle.report.proofs.Fitting.{report_whole}
use Rattle.weigh.proofs.weigh.Goals as goal

-- so long that it must not be counted
long : (n : ℕ) → n ≤ length {0} {A = ℕ} (replicate n 0)
long n = le_of_eq (sym (length-replicate {A = ℕ} n 0))

pub slice_bounds-report-end : goal.slice_bounds-report-end
slice_bounds-report-end c = sym (length-replicate {A = ℕ} report_buffer 0)

pub slice_bounds-deliver-end : goal.slice_bounds-deliver-end
slice_bounds-deliver-end c = sym (c.report-end.auto.out ∙ length-replicate {A = ℕ} report_buffer 0)

pub returns : goal.returns
returns c =
    let whole = report_whole c.args.form c.args.bytes.now {before = replicate report_buffer 0} {after = c.report-end.new.out} {end = c.report-end.result} (long report_buffer) c.report-end.ensures in
    sym (length-take-le _ _ whole.0) ∙ ap length whole.1
