use Rattle.node_file.proofs.Answering.{reads_refused, reads_within, reads_taken}
use Rattle.diagram.proofs.Accepting.{passed_on}
use Rattle.node_file.proofs.read.read_as_bytes.Goals as goal

pub returns-in_err-nodes : goal.returns-in_err-nodes
returns-in_err-nodes c = rw (passed_on c.from_residual.result c.in_err-nodes.field-0.0 c.from_residual.ensures.1) (reads_refused c.args.bytes.now c.args.output.now c.test_length.ensures c.in_err-nodes.was)

pub get_nodes-requires : goal.get_nodes-requires
get_nodes-requires c = reads_within c.args.bytes.now c.args.output.now c.test_length.ensures c.in_ok-nodes.was

pub returns : goal.returns
returns c = reads_taken c.args.bytes.now c.args.output.now c.test_length.ensures c.in_ok-nodes.was c.get_nodes.ensures
