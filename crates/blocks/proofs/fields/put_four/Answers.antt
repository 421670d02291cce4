use Rattle.writing.proofs.Laws.{wrote_then}
use Rattle.blocks.proofs.fields.put_four.Goals as goal

pub returns : goal.returns
returns c = wrote_then c.put_two-next.ensures c.put_two.ensures
