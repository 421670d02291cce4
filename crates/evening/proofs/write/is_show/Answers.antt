use mathlib.Core.Path.{refl}
use borrow.Author.Tests.{eq-eqb, ne_eqb}
use Rattle.evening.specs.Storing.{is_show}
use Rattle.evening.proofs.write.is_show.Goals as goal

pub returns-then-count-ne1 : goal.returns-then-count-ne1
unfolding is_show
returns-then-count-ne1 c = rw (ne_eqb _ 1 c.if-count-ne1.true) refl

pub returns : goal.returns
unfolding is_show
returns c = rw (eq-eqb _ 1 c.if-count-ne1.false) c.same.ensures
