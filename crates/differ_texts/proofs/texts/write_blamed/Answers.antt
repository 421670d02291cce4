use mathlib.Core.Path.{sym}
use borrow.Author.Tests.{eq-eqb, ne_eqb}
use Rattle.differ_texts.specs.Texts.{blamed}
use Rattle.differ_texts.proofs.texts.write_blamed.Goals as goal

pub returns-then-of_both : goal.returns-then-of_both
unfolding blamed
returns-then-of_both c = rw (sym c.of_both.ensures, c.if-of_both.true) c.write_named.ensures

pub returns-then-which-eq0 : goal.returns-then-which-eq0
unfolding blamed
returns-then-which-eq0 c = rw (sym c.of_both.ensures, c.if-of_both.false, eq-eqb c.args.which 0 c.if-which-eq0.true) c.write_named-then-which-eq0.ensures

pub returns : goal.returns
unfolding blamed
returns c = rw (sym c.of_both.ensures, c.if-of_both.false, ne_eqb c.args.which 0 c.if-which-eq0.false) c.write_named-2.ensures
