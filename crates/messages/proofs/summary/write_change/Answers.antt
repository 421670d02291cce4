use mathlib.Core.Path.{sym}
use Rattle.messages.specs.Texts.{change_text}
use Rattle.messages.proofs.summary.write_change.Goals as goal

pub returns-then-keep : goal.returns-then-keep
unfolding change_text
returns-then-keep c = rw (c.if-keep.true, sym c.excess.ensures) c.write_line.ensures

pub returns : goal.returns
unfolding change_text
returns c = rw (c.if-keep.false, sym c.excess-2.ensures) c.write_line-2.ensures
