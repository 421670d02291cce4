use Rattle.diagram.proofs.Rows.{lacks_yes, lacks_no}
use Rattle.diagram_form.proofs.terminals.lacks_one.Goals as goal

pub returns-then-words-gt1 : goal.returns-then-words-gt1
returns-then-words-gt1 c =
    lacks_yes c.args.words.now c.is_terminal_node.result c.if-words-gt1.true c.is_terminal_node.ensures

pub returns : goal.returns
returns c = lacks_no c.args.words.now c.if-words-gt1.false
