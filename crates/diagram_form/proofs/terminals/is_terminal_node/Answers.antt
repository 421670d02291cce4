use Rattle.diagram.proofs.Rows.{terminal_no_var, terminal_no_low, terminal_by_high}
use Rattle.diagram_form.proofs.terminals.is_terminal_node.Goals as goal

pub returns-then-var-word : goal.returns-then-var-word
returns-then-var-word c =
    terminal_no_var c.args.words.now c.args.node.0 c.var_of-var.result.0 c.word.result c.var_of-var.ensures c.word.ensures c.if-var-word.true

pub returns-then-low-node : goal.returns-then-low-node
returns-then-low-node c =
    terminal_no_low c.args.words.now c.args.node.0 c.var_of-var.result.0 c.word.result c.var_of-var.ensures c.word.ensures
    c.if-var-word.false c.low_link_of-low.result.0 c.low_link_of-low.ensures c.if-low-node.true

pub returns : goal.returns
returns c =
    terminal_by_high c.args.words.now c.args.node.0 c.var_of-var.result.0 c.word.result c.var_of-var.ensures c.word.ensures
    c.if-var-word.false c.low_link_of-low.result.0 c.low_link_of-low.ensures c.if-low-node.false c.high_link_of-high.result.0 c.high_link_of-high.ensures
