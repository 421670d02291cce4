use Rattle.writing.proofs.Laws.{still_part, still_none}
use Rattle.blocks.proofs.Places.{nodes_next, nodes_none}
use Rattle.blocks.proofs.nodes.get_nodes.Goals as goal

pub loop-i-preserved : goal.loop-i-preserved
loop-i-preserved c = still_part c.loop-i.invariant _ _ (nodes_next _ _ _ _ c.loop-i-test.true) c.get_node-place.ensures

pub returns : goal.returns
returns c = still_none c.loop-i.invariant (nodes_none _ _ _ _ c.loop-i-test.false)
