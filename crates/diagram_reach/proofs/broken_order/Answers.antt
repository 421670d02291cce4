use mathlib.Core.Bool.{true, false}
use Rattle.diagram.proofs.Breaks.{number_by_low}
use Rattle.diagram_reach.proofs.broken_order.Goals as goal

pub returns-then-is_before : goal.returns-then-is_before
returns-then-is_before c =
    number_by_low c.args.words.now c.args.node.0 c.var_of-var.result.0 c.low_link_of.result.0 c.var_of-low.result.0
    c.var_of-var.ensures c.low_link_of.ensures c.var_of-low.ensures
    c.is_before.result true c.is_before.ensures c.if-is_before.true

pub returns : goal.returns
returns c =
    number_by_low c.args.words.now c.args.node.0 c.var_of-var.result.0 c.low_link_of.result.0 c.var_of-low.result.0
    c.var_of-var.ensures c.low_link_of.ensures c.var_of-low.ensures
    c.is_before.result false c.is_before.ensures c.if-is_before.false
