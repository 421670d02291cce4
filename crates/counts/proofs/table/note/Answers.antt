use Rattle.counts.proofs.Entries.{note_done}
use Rattle.counts.proofs.table.note.Goals as goal

pub returns : goal.returns
returns c = note_done c.args.base c.args.table.now c.args.node.0 c.to_index.result c.to_index.ensures c.requires c.store.ensures
