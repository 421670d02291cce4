use Rattle.blocks.proofs.Testing.{counts_number, counts_other, counts_none, counts_decide}
use Rattle.block_reading.proofs.counts_right.Goals as goal

pub returns-then-get_two-number : goal.returns-then-get_two-number
returns-then-get_two-number c = counts_number c.args.block.now c.args.number c.args.stated c.get_two.ensures.0 c.if-get_two-number.true

pub returns-then-not-same_file : goal.returns-then-not-same_file
returns-then-not-same_file c = counts_other c.args.block.now c.args.number c.args.stated c.get_two.ensures.0 c.if-get_two-number.false c.get_four-nodes.ensures c.same_file.ensures (c.if-not-same_file.true)

pub returns-then-held-eq0 : goal.returns-then-held-eq0
returns-then-held-eq0 c = counts_none c.args.block.now c.args.number c.args.stated c.get_two.ensures.0 c.if-get_two-number.false c.get_four-nodes.ensures c.same_file.ensures (c.if-not-same_file.false) c.get_two-held.ensures.0 c.if-held-eq0.true

pub returns : goal.returns
returns c = counts_decide c.args.block.now c.args.number c.args.stated c.get_two.ensures.0 c.if-get_two-number.false c.get_four-nodes.ensures c.same_file.ensures (c.if-not-same_file.false) c.get_two-held.ensures.0 c.if-held-eq0.false c.nodes_here.ensures
