use Rattle.pool_check.proofs.Marking.{wanted_by}
use Rattle.pool_check.proofs.wanted.wanted_in.Goals as goal

pub returns : goal.returns
returns c = wanted_by c.args.table.now c.args.slots.now c.requires.0 c.mark_named.ensures c.mark_linked.ensures c.are_marked.ensures
