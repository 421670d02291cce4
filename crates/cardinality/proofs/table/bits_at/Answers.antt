use Rattle.cardinality.proofs.Bits.{bits_read}
use Rattle.cardinality.proofs.table.bits_at.Goals as goal

pub returns : goal.returns
returns c = bits_read c.args.room.now c.args.base c.args.node.0 c.to_index.result c.wide.result c.wide-2.result c.to_index.ensures c.wide.ensures.0 c.wide-2.ensures.0
