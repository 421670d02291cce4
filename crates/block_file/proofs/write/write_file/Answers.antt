use Rattle.block_file.proofs.Storing.{writes_refused, writes_storable, writes_taken}
use Rattle.diagram.proofs.Accepting.{passed_on}
use Rattle.block_file.proofs.write.write_file.Goals as goal

pub returns-in_err-nodes : goal.returns-in_err-nodes
returns-in_err-nodes c = rw (passed_on c.from_residual.result c.in_err-nodes.field-0.0 c.from_residual.ensures.1) (writes_refused c.args.words.now c.args.file.now c.test_words.ensures c.in_err-nodes.was)

pub put_blocks-requires : goal.put_blocks-requires
put_blocks-requires c = writes_storable c.args.words.now c.args.file.now c.test_words.ensures c.in_ok-nodes.was

pub returns : goal.returns
returns c = writes_taken c.args.words.now c.args.file.now c.test_words.ensures c.in_ok-nodes.was c.put_blocks.ensures
