use mathlib.Core.Path.{sym}
use lib.ListN.{get_or-eq_default}
use Rattle.diagram.proofs.node.word.Goals as goal

pub returns-else-at-words : goal.returns-else-at-words
returns-else-at-words c = sym (get_or-eq_default c.args.words.now 0 c.if-at-words.false)
