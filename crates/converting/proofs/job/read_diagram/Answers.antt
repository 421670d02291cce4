use mathlib.Core.Path.{refl}
use Rattle.std.specs.Prelude.{Ok, Err}
use Rattle.diagram.proofs.Accepting.{passed_on}
use lib.Seq.{length-take-le}
use mathlib.Core.Path.{sym}
use Rattle.converting.proofs.Answering.{read_few, finds_none, finds}
use native.Mathlib.Omega.{arith}
use Rattle.converting.proofs.job.read_diagram.Goals as goal

pub returns-in_err-nodes : goal.returns-in_err-nodes
returns-in_err-nodes c =
    rw (passed_on c.from_residual.result c.in_err-nodes.field-0.0 c.from_residual.ensures.1) (finds_none c.args.form c.args.bytes.now _ _ c.read_form.ensures c.in_err-nodes.was)

pub overflow_mul-nodes : goal.overflow_mul-nodes
overflow_mul-nodes c = omega (arith, read_few c.args.form c.args.bytes.now _ _ c.read_form.ensures c.in_ok-nodes.was)

pub slice_bounds-check-end : goal.slice_bounds-check-end
slice_bounds-check-end c = omega (arith, read_few c.args.form c.args.bytes.now _ _ c.read_form.ensures c.in_ok-nodes.was, c.requires, c.read_form.auto.output)

pub slice_bounds-check-end-2 : goal.slice_bounds-check-end-2
slice_bounds-check-end-2 c = sym (length-take-le _ _ (omega (arith, read_few c.args.form c.args.bytes.now _ _ c.read_form.ensures c.in_ok-nodes.was, c.requires, c.read_form.auto.output)))

pub returns-in_err-check : goal.returns-in_err-check
returns-in_err-check c =
    rw (passed_on c.from_residual-in_err-check.result c.in_err-check.field-0.0 c.from_residual-in_err-check.ensures.1)
    (finds c.args.form c.args.bytes.now _ _ c.read_form.ensures (Err _) (Err _) c.in_ok-nodes.was c.in_err-check.ensures refl)

pub returns : goal.returns
returns c = finds c.args.form c.args.bytes.now _ _ c.read_form.ensures (Ok _) (Ok _) c.in_ok-nodes.was c.in_ok-check.ensures refl
