use Rattle.node_file.proofs.Answering.{writes_refused, writes_taken}
use Rattle.diagram.proofs.Accepting.{passed_on}
use Rattle.node_file.proofs.write.write_as_bytes.Goals as goal

pub returns-in_err-nodes : goal.returns-in_err-nodes
returns-in_err-nodes c = rw (passed_on c.from_residual.result c.in_err-nodes.field-0.0 c.from_residual.ensures.1) (writes_refused c.args.words.now c.args.bytes.now c.test_words.ensures c.in_err-nodes.was)

pub returns : goal.returns
returns c = writes_taken c.args.words.now c.args.bytes.now c.test_words.ensures c.in_ok-nodes.was c.put_nodes.ensures
