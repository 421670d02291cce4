use Rattle.request.proofs.Asking.{is_nodes_lem, is_blocks}
use Rattle.request.proofs.form.form_of.Goals as goal

pub returns-then-same : goal.returns-then-same
returns-then-same c = is_nodes_lem c.args.first.now c.same.ensures c.if-same.true

pub returns : goal.returns
returns c = is_blocks c.args.first.now c.same.ensures c.if-same.false
