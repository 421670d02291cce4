use Rattle.blocks.proofs.Places.{wrote_node}
use Rattle.blocks.proofs.nodes.get_node.Goals as goal

pub returns : goal.returns
returns c = wrote_node c.args.bytes.now c.args.from c.two_at.ensures.0 c.four_at.ensures c.four_at-2.ensures c.put-low.ensures c.put-high.ensures c.put.ensures
