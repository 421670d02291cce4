use Rattle.summary_calls.proofs.Keeping.{roomy_told}
use Rattle.summary_calls.proofs.keep.summarize.Goals as goal

pub recount-requires : goal.recount-requires
recount-requires c = roomy_told c.args.table.now c.args.slots.now c.args.summary.now c.roomy.ensures c.in_ok-extent.was
