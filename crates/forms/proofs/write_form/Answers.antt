use Rattle.forms.proofs.Laws.{writes_blocks, writes_nodes}
use Rattle.forms.proofs.write_form.Goals as goal

pub returns-in-Blocks : goal.returns-in-Blocks
returns-in-Blocks c = writes_blocks c.in-Blocks.is c.write_file.ensures

pub returns-in-Nodes : goal.returns-in-Nodes
returns-in-Nodes c = writes_nodes c.in-Nodes.is c.write_as_bytes.ensures
