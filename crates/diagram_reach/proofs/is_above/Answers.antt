use Rattle.diagram.proofs.Breaks.{above_by_high, above_not_low}
use Rattle.diagram_reach.proofs.is_above.Goals as goal

pub returns-then-is_before : goal.returns-then-is_before
returns-then-is_before c =
    above_by_high c.args.words.now c.args.node.0 c.var_of-var.result.0 c.low_link_of.result.0 c.var_of-low.result.0
    c.var_of-var.ensures c.low_link_of.ensures c.var_of-low.ensures
    c.high_link_of.result.0 c.var_of-high.result.0 c.is_before.result c.is_before-then-is_before.result c.is_before.ensures c.if-is_before.true
    c.high_link_of.ensures c.var_of-high.ensures c.is_before-then-is_before.ensures

pub returns : goal.returns
returns c =
    above_not_low c.args.words.now c.args.node.0 c.var_of-var.result.0 c.low_link_of.result.0 c.var_of-low.result.0
    c.var_of-var.ensures c.low_link_of.ensures c.var_of-low.ensures
    c.is_before.result c.is_before.ensures c.if-is_before.false
