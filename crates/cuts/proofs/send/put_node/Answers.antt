use Rattle.cuts.proofs.Steps.{node_written}
use Rattle.cuts.proofs.send.put_node.Goals as goal

pub returns : goal.returns
returns c = node_written c.args.sent.now c.args.node.0 c.args.var.0 c.args.low.0 c.args.high.0 c.to_index-at.result c.put.new.room c.put-2.new.room c.put-3.new.room c.to_index-at.ensures c.put.ensures c.put-2.ensures c.put-3.ensures
