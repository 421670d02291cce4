use Rattle.pairs.proofs.Steps.{pass_other, pass_high, pass_low}
use Rattle.diagram.proofs.Reading.{pass_ends}
use mathlib.Core.Path.{sym, ◌∙◌}
use borrow.Author.Tests.{ltb-true, ltb-false}
use Rattle.pairs.proofs.Steps.{pass_other}
use Rattle.diagram.proofs.Reading.{pass_ends}
use Rattle.pairs.proofs.step.pass.Goals as goal

pub returns-then-is_terminal : goal.returns-then-is_terminal
returns-then-is_terminal c = sym (pass_ends _ _ _ _ (ltb-true _ 2 (sym c.is_terminal.ensures ∙ c.if-is_terminal.true)))

pub returns-then-here-variable : goal.returns-then-here-variable
returns-then-here-variable c = sym (pass_other _ _ _ _ (λ e. c.if-here-variable.true (c.var_of-here.ensures ∙ e)))

pub returns-then-bit : goal.returns-then-bit
returns-then-bit c = pass_high _ _ _ (ltb-false _ 2 (sym c.is_terminal.ensures ∙ c.if-is_terminal.false)) (sym c.var_of-here.ensures ∙ c.if-here-variable.false) c.if-bit.true c.high_link_of.ensures

pub returns : goal.returns
returns c = pass_low _ _ _ (ltb-false _ 2 (sym c.is_terminal.ensures ∙ c.if-is_terminal.false)) (sym c.var_of-here.ensures ∙ c.if-here-variable.false) c.if-bit.false c.low_link_of.ensures
