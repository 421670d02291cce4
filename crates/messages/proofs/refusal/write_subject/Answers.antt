use Rattle.writing.proofs.Laws.{wrote_then, wrote_none}
use mathlib.Core.Path.{sym}
use Rattle.messages.specs.Texts.{subject}
use Rattle.messages.proofs.refusal.write_subject.Goals as goal

pub returns-then-of_node : goal.returns-then-of_node
unfolding subject
returns-then-of_node c = rw (sym c.of_node.ensures, c.if-of_node.true) (wrote_then c.write_number-next.ensures c.write.ensures)

pub returns : goal.returns
unfolding subject
returns c = rw (sym c.of_node.ensures, c.if-of_node.false) (wrote_none _ _)
