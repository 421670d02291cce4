use Rattle.blocks.specs.Block.{front}
use Rattle.writing.proofs.Laws.{wrote_then}
use Rattle.blocks.proofs.write.put_front.Goals as goal

pub returns : goal.returns
unfolding front
returns c = wrote_then (wrote_then (wrote_then (wrote_then c.put_two-counted.ensures c.put_two-begun.ensures) c.put_nodes-used.ensures) c.write_zeros-full.ensures) c.put_four.ensures
