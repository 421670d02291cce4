use mathlib.Core.Path.{refl}
use Rattle.request.specs.Request.{weighable}
use borrow.Author.Tests.{eq-eqb, ne_eqb}
use Rattle.request.proofs.form.may_weigh.Goals as goal

pub returns-then-count-eq0 : goal.returns-then-count-eq0
unfolding weighable
returns-then-count-eq0 c = rw (eq-eqb _ 0 c.if-count-eq0.true) refl

pub returns-then-count-ne1 : goal.returns-then-count-ne1
unfolding weighable
returns-then-count-ne1 c = rw (ne_eqb _ 0 c.if-count-eq0.false, ne_eqb _ 1 c.if-count-ne1.true) refl

pub returns : goal.returns
unfolding weighable
returns c = rw (ne_eqb _ 0 c.if-count-eq0.false, eq-eqb _ 1 c.if-count-ne1.false) c.same.ensures
