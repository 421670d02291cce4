use Rattle.writing.proofs.Laws.{wrote_then}
use Rattle.blocks.proofs.fields.put_two.Goals as goal

pub returns : goal.returns
returns c = wrote_then c.put-next.ensures c.put.ensures
