use Rattle.writing.proofs.Laws.{wrote_then}
use Rattle.blocks.proofs.nodes.put_part.Goals as goal

pub returns : goal.returns
returns c = wrote_then c.put_two-first.ensures (wrote_then c.put_four-second.ensures c.put_four.ensures)
