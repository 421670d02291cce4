use mathlib.Core.Path.{refl, sym}
use borrow.Author.Tests.{eq-eqb, ne_eqb}
use Rattle.differing.specs.Differing.{asked_of}
use Rattle.differing.proofs.words.asked_of.Goals as goal

pub returns-then-count-eq0 : goal.returns-then-count-eq0
unfolding asked_of
returns-then-count-eq0 c = rw (eq-eqb _ 0 c.if-count-eq0.true) refl

pub returns-then-count-eq2 : goal.returns-then-count-eq2
unfolding asked_of
returns-then-count-eq2 c = rw (ne_eqb _ 0 c.if-count-eq0.false, eq-eqb _ 2 c.if-count-eq2.true) refl

pub returns-then-count-ne3 : goal.returns-then-count-ne3
unfolding asked_of
returns-then-count-ne3 c = rw (ne_eqb _ 0 c.if-count-eq0.false, ne_eqb _ 2 c.if-count-eq2.false, ne_eqb _ 3 c.if-count-ne3.true) refl

pub returns-then-same : goal.returns-then-same
unfolding asked_of
returns-then-same c = rw (ne_eqb _ 0 c.if-count-eq0.false, ne_eqb _ 2 c.if-count-eq2.false, eq-eqb _ 3 c.if-count-ne3.false, sym c.same.ensures, c.if-same.true) refl

pub returns : goal.returns
unfolding asked_of
returns c = rw (ne_eqb _ 0 c.if-count-eq0.false, ne_eqb _ 2 c.if-count-eq2.false, eq-eqb _ 3 c.if-count-ne3.false, sym c.same.ensures, c.if-same.false) refl
