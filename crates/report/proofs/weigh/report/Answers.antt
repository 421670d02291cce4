use Rattle.diagram.specs.Limits.{max_words}
use lib.ListN.{length, length-replicate}
use lib.Seq.{length-take-le}
use Prim.Native.Nat.{ℕ, ◌*◌}
use mathlib.Core.Path.{◌≡◌, refl, sym}
use Rattle.report.proofs.Answering.{file_refused, file_read_lem, file_few}
use native.Mathlib.Omega.{arith}
use Rattle.report.proofs.weigh.report.Goals as goal

pub slice_bounds-read_form-end : goal.slice_bounds-read_form-end
slice_bounds-read_form-end c = sym (length-replicate {A = ℕ} max_words 0)

pub overflow_mul-words : goal.overflow_mul-words
overflow_mul-words c = omega (arith, file_few c.args.form c.args.bytes.now _ _ c.read_form.ensures refl c.in-Ok.is)

pub slice_bounds-words-end : goal.slice_bounds-words-end
slice_bounds-words-end c = omega (arith, file_few c.args.form c.args.bytes.now _ _ c.read_form.ensures refl c.in-Ok.is, c.read_form.auto.output)

pub slice_bounds-report_diagram-end : goal.slice_bounds-report_diagram-end
slice_bounds-report_diagram-end c = let h : length c.read_form.new.output ≡ max_words = c.read_form.auto.output in sym (length-take-le (3 * c.in-Ok.nodes) c.read_form.new.output (omega (arith, file_few c.args.form c.args.bytes.now _ _ c.read_form.ensures refl c.in-Ok.is)))

pub returns-in-Ok : goal.returns-in-Ok
returns-in-Ok c = file_read_lem c.args.form c.args.bytes.now _ _ c.read_form.ensures refl c.in-Ok.is c.report_diagram.ensures

pub returns-in-Err : goal.returns-in-Err
returns-in-Err c = file_refused c.args.form c.args.bytes.now _ _ c.read_form.ensures refl c.in-Err.is c.write_refusal.ensures
