use Rattle.summary_fresh.proofs.Afresh.{compared}
use Rattle.summary_fresh.proofs.agree.agrees.Goals as goal

pub returns : goal.returns
returns c = compared c.args.table.now c.args.slots.now c.args.summary.now c.requires c.recount.ensures c.word.ensures c.is_same.ensures
