use Rattle.blocks.proofs.Answering.{reads_refused, number_small, nodes_inside, reads_taken}
use Rattle.diagram.proofs.Accepting.{passed_on}
use native.Mathlib.Omega.{arith}
use Rattle.block_reading.proofs.read_block.Goals as goal

pub returns-in_err-nodes : goal.returns-in_err-nodes
returns-in_err-nodes c = rw (passed_on c.from_residual.result c.in_err-nodes.field-0.0 c.from_residual.ensures.1) (reads_refused c.args.block.now c.args.output.now c.args.number c.args.stated c.test_block.ensures c.in_err-nodes.was)

pub overflow_mul-number : goal.overflow_mul-number
overflow_mul-number c = omega (arith, number_small c.args.block.now c.args.output.now c.args.number c.args.stated c.test_block.ensures c.in_ok-nodes.was)

pub get_nodes-requires : goal.get_nodes-requires
get_nodes-requires c = nodes_inside c.args.block.now c.args.output.now c.args.number c.args.stated c.test_block.ensures c.in_ok-nodes.was c.get_two-held.ensures.0

pub returns : goal.returns
returns c = reads_taken c.args.block.now c.args.output.now c.args.number c.args.stated c.test_block.ensures c.in_ok-nodes.was c.get_two-held.ensures.0 c.get_nodes.ensures
