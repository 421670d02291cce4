use mathlib.Core.Bool.{not}
use mathlib.Core.Path.{ap}
use Rattle.diagram.proofs.Rows.{refuse_6, refuse_6_one, refuse_7, pass_7}
use Rattle.diagram_form.proofs.terminals.terminals.Goals as goal

pub returns-then-not-is_terminal_node : goal.returns-then-not-is_terminal_node
returns-then-not-is_terminal_node c =
    refuse_6 c.args.words.now c.is_terminal_node.result c.is_terminal_node.ensures (ap not c.if-not-is_terminal_node.true)

pub returns-then-lacks_one : goal.returns-then-lacks_one
returns-then-lacks_one c =
    refuse_6_one c.args.words.now c.is_terminal_node.result c.is_terminal_node.ensures (ap not c.if-not-is_terminal_node.false)
    c.lacks_one.result c.lacks_one.ensures c.if-lacks_one.true

pub returns-then-vars-gt-MAX_VARIABLES : goal.returns-then-vars-gt-MAX_VARIABLES
returns-then-vars-gt-MAX_VARIABLES c =
    refuse_7 c.args.words.now c.is_terminal_node.result c.is_terminal_node.ensures (ap not c.if-not-is_terminal_node.false)
    c.lacks_one.result c.lacks_one.ensures c.if-lacks_one.false c.word-vars.result c.word-vars.ensures c.if-vars-gt-MAX_VARIABLES.true

pub returns : goal.returns
returns c =
    pass_7 c.args.words.now c.is_terminal_node.result c.is_terminal_node.ensures (ap not c.if-not-is_terminal_node.false)
    c.lacks_one.result c.lacks_one.ensures c.if-lacks_one.false c.word-vars.result c.word-vars.ensures c.if-vars-gt-MAX_VARIABLES.false
