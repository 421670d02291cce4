use Rattle.differ_texts.specs.Texts.{list_on}
use mathlib.Core.Path.{sym}
use Rattle.differ_texts.proofs.lines.write_list.Goals as goal

pub returns-then-any_on : goal.returns-then-any_on
unfolding list_on
returns-then-any_on c = rw (sym c.any_on.ensures, c.if-any_on.true) c.write_signals.ensures

pub returns : goal.returns
unfolding list_on
returns c = rw (sym c.any_on.ensures, c.if-any_on.false) c.write.ensures
