use Rattle.diagram.proofs.Rows.{fault_var, fault_low, fault_high, fault_none}
use Rattle.diagram_form.proofs.ranges.fault_of.Goals as goal

pub returns-then-vars-var : goal.returns-then-vars-var
returns-then-vars-var c =
    fault_var c.args.nodes c.args.vars c.args.words.now c.args.node.0 c.var_of-var.result.0 c.var_of-var.ensures c.if-vars-var.true

pub returns-then-nodes-low : goal.returns-then-nodes-low
returns-then-nodes-low c =
    fault_low c.args.nodes c.args.vars c.args.words.now c.args.node.0 c.var_of-var.result.0 c.var_of-var.ensures
    c.if-vars-var.false c.low_link_of-low.result.0 c.low_link_of-low.ensures c.if-nodes-low.true

pub returns-then-nodes-high : goal.returns-then-nodes-high
returns-then-nodes-high c =
    fault_high c.args.nodes c.args.vars c.args.words.now c.args.node.0 c.var_of-var.result.0 c.var_of-var.ensures
    c.if-vars-var.false c.low_link_of-low.result.0 c.low_link_of-low.ensures c.if-nodes-low.false c.high_link_of-high.result.0 c.high_link_of-high.ensures c.if-nodes-high.true

pub returns : goal.returns
returns c =
    fault_none c.args.nodes c.args.vars c.args.words.now c.args.node.0 c.var_of-var.result.0 c.var_of-var.ensures
    c.if-vars-var.false c.low_link_of-low.result.0 c.low_link_of-low.ensures c.if-nodes-low.false c.high_link_of-high.result.0 c.high_link_of-high.ensures c.if-nodes-high.false
