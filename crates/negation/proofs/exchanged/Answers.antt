use mathlib.Core.Path.{sym, ◌∙◌}
use borrow.Author.Tests.{ltb-true, ltb-false}
use Rattle.negation.proofs.Words.{exchanged_low, exchanged_high}
use native.Mathlib.Omega.{arith}
use Rattle.negation.proofs.exchanged.Goals as goal

pub overflow_sub-result : goal.overflow_sub-result
overflow_sub-result c = omega (arith, (ltb-true c.args.link.0 2 (sym c.is_terminal.ensures ∙ c.if-is_terminal.true)))

pub returns-then-is_terminal : goal.returns-then-is_terminal
returns-then-is_terminal c = sym (exchanged_low c.args.link.0 (ltb-true c.args.link.0 2 (sym c.is_terminal.ensures ∙ c.if-is_terminal.true)))

pub returns : goal.returns
returns c = sym (exchanged_high c.args.link.0 (ltb-false c.args.link.0 2 (sym c.is_terminal.ensures ∙ c.if-is_terminal.false)))
