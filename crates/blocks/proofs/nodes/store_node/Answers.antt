use Rattle.writing.proofs.Laws.{wrote_then}
use Rattle.blocks.proofs.nodes.store_node.Goals as goal

pub returns : goal.returns
returns c = wrote_then c.store_two-first.ensures.1 (wrote_then c.store_four-second.ensures.1 c.store_four.ensures.1)
