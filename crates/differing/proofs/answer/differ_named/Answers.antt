use Rattle.std.specs.Option.{option_copied}
use Rattle.differing.proofs.Answering.{named_blocks, named_nodes}
use Rattle.differing.proofs.answer.differ_named.Goals as goal

pub returns-in-Blocks : goal.returns-in-Blocks
returns-in-Blocks c = named_blocks c.args.form c.args.first.now c.args.second.now c.args.third.now (option_copied c.args.old) (option_copied c.args.new) c.in-Blocks.is c.differ.ensures

pub returns-in-Nodes : goal.returns-in-Nodes
returns-in-Nodes c = named_nodes c.args.form c.args.first.now c.args.second.now c.args.third.now (option_copied c.args.old) (option_copied c.args.new) c.in-Nodes.is c.differ-in-Nodes.ensures
