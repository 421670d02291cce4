use Rattle.pool_check.proofs.Returns.{right_no_var, right_no_low, right_no_high, right_not_lean, right_by_above}
use Rattle.pool_check.proofs.nodes.is_right.Goals as goal

pub returns-then-word-var : goal.returns-then-word-var
returns-then-word-var c = right_no_var c.args.table.now c.args.node.0 c.var_of-var.ensures c.word.ensures c.if-word-var.true

pub returns-then-places-to_index : goal.returns-then-places-to_index
returns-then-places-to_index c = right_no_low c.args.table.now c.args.node.0 c.var_of-var.ensures c.word.ensures c.if-word-var.false c.low_link_of-low.ensures c.to_index.ensures c.if-places-to_index.true

pub returns-then-places-to_index-2 : goal.returns-then-places-to_index-2
returns-then-places-to_index-2 c = right_no_high c.args.table.now c.args.node.0 c.var_of-var.ensures c.word.ensures c.if-word-var.false c.low_link_of-low.ensures c.to_index.ensures c.if-places-to_index.false c.high_link_of-high.ensures c.to_index-2.ensures c.if-places-to_index-2.true

pub returns-then-low-high : goal.returns-then-low-high
returns-then-low-high c = right_not_lean c.args.table.now c.args.node.0 c.var_of-var.ensures c.word.ensures c.if-word-var.false c.low_link_of-low.ensures c.to_index.ensures c.if-places-to_index.false c.high_link_of-high.ensures c.to_index-2.ensures c.if-places-to_index-2.false c.if-low-high.true

pub returns : goal.returns
returns c = right_by_above c.args.table.now c.args.node.0 c.var_of-var.ensures c.word.ensures c.if-word-var.false c.low_link_of-low.ensures c.to_index.ensures c.if-places-to_index.false c.high_link_of-high.ensures c.to_index-2.ensures c.if-places-to_index-2.false c.if-low-high.false c.is_above.ensures
