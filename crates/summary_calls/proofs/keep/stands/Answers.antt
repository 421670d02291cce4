use mathlib.Core.Path.{sym, ◌∙◌}
use Rattle.diagram.proofs.Accepting.{passed_on}
use Rattle.summary_calls.proofs.Keeping.{stands_refused, roomy_told, stands_other, stands_told}
use Rattle.summary_calls.proofs.keep.stands.Goals as goal

pub returns-in_err-extent : goal.returns-in_err-extent
returns-in_err-extent c =
    rw (passed_on c.from_residual.result c.in_err-extent.field-0.0 c.from_residual.ensures.1)
    (stands_refused c.args.table.now c.args.slots.now c.args.summary.now c.roomy.ensures c.in_err-extent.was)

pub agrees-requires : goal.agrees-requires
agrees-requires c = roomy_told c.args.table.now c.args.slots.now c.args.summary.now c.roomy.ensures c.in_ok-extent.was

pub returns-then-not-agrees : goal.returns-then-not-agrees
returns-then-not-agrees c = sym (stands_other c.args.table.now c.args.slots.now c.args.summary.now c.roomy.ensures c.in_ok-extent.was (sym c.agrees.ensures ∙ c.if-not-agrees.true))

pub returns : goal.returns
returns c = stands_told c.args.table.now c.args.slots.now c.args.summary.now c.roomy.ensures c.in_ok-extent.was (sym c.agrees.ensures ∙ c.if-not-agrees.false)
