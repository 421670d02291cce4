use mathlib.Core.Path.{refl, sym}
use borrow.Author.Tests.{eq-eqb, ne_eqb}
use Rattle.converting.specs.Converting.{conversion_of}
use Rattle.converting.proofs.words.conversion_of.Goals as goal

pub returns-then-count-eq0 : goal.returns-then-count-eq0
unfolding conversion_of
returns-then-count-eq0 c = rw (eq-eqb _ 0 c.if-count-eq0.true) refl

pub returns-then-count-ne3 : goal.returns-then-count-ne3
unfolding conversion_of
returns-then-count-ne3 c = rw (ne_eqb _ 0 c.if-count-eq0.false, ne_eqb _ 3 c.if-count-ne3.true) refl

pub returns-then-not-same : goal.returns-then-not-same
unfolding conversion_of
returns-then-not-same c = rw (ne_eqb _ 0 c.if-count-eq0.false, eq-eqb _ 3 c.if-count-ne3.false, sym c.same.ensures, c.if-not-same.true) refl

pub returns-then-are_words : goal.returns-then-are_words
unfolding conversion_of
returns-then-are_words c = rw (ne_eqb _ 0 c.if-count-eq0.false, eq-eqb _ 3 c.if-count-ne3.false, sym c.same.ensures, c.if-not-same.false, sym c.are_words.ensures, c.if-are_words.true) refl

pub returns-then-are_words-2 : goal.returns-then-are_words-2
unfolding conversion_of
returns-then-are_words-2 c = rw (ne_eqb _ 0 c.if-count-eq0.false, eq-eqb _ 3 c.if-count-ne3.false, sym c.same.ensures, c.if-not-same.false, sym c.are_words.ensures, c.if-are_words.false, sym c.are_words-2.ensures, c.if-are_words-2.true) refl

pub returns : goal.returns
unfolding conversion_of
returns c = rw (ne_eqb _ 0 c.if-count-eq0.false, eq-eqb _ 3 c.if-count-ne3.false, sym c.same.ensures, c.if-not-same.false, sym c.are_words.ensures, c.if-are_words.false, sym c.are_words-2.ensures, c.if-are_words-2.false) refl
