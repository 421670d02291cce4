use Rattle.diagram.proofs.Parents.{both_set}
use Rattle.diagram_check.proofs.plain.mark_children.Goals as goal

pub returns : goal.returns
returns c =
    both_set c.args.words.now c.args.node.0 c.args.room.now c.put.new.room c.put-2.new.room
    c.low_link_of-low.result.0 c.to_index.result c.high_link_of-high.result.0 c.to_index-2.result
    c.low_link_of-low.ensures c.to_index.ensures c.put.ensures c.high_link_of-high.ensures c.to_index-2.ensures c.put-2.ensures
