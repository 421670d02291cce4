use Rattle.writing.proofs.Laws.{wrote_then}
use Rattle.converting.specs.Converting.{nodes_text}
use Rattle.converting.proofs.texts.write_nodes.Goals as goal

pub returns : goal.returns
unfolding nodes_text
returns c = wrote_then c.write_number-next.ensures c.put.ensures
