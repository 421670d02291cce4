use Rattle.summary_fresh.proofs.Afresh.{worked_out}
use Rattle.summary_fresh.proofs.recount.recount.Goals as goal

pub returns : goal.returns
returns c = worked_out c.args.table.now c.args.slots.now c.args.summary.now c.requires c.word.ensures c.clear.ensures c.count_nodes.ensures c.count_slots.ensures
