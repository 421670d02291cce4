use Rattle.block_file.proofs.Storing.{part_whole, wrote_part}
use Rattle.block_file.proofs.write.put_block.Goals as goal

pub write_block-requires : goal.write_block-requires
write_block-requires c = part_whole c.requires.0 c.args.number c.requires.1 c.nodes_here.ensures

pub returns : goal.returns
returns c = wrote_part c.requires.0 c.args.number c.requires.1 c.nodes_here.ensures c.write_block.ensures
