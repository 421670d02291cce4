use Rattle.cuts.proofs.Steps.{marked_read}
use Rattle.cuts.proofs.marks.is_marked.Goals as goal

pub returns : goal.returns
returns c = marked_read c.args.most c.args.room.now c.args.node.0 c.to_index.result c.word.result c.to_index.ensures c.word.ensures
