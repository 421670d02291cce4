use mathlib.Core.Path.{sym, ◌∙◌}
use Rattle.cases.proofs.Reading.{digit_same, digits_on, digits_stop, digits_end}
use Rattle.cases.proofs.number.Goals as goal

pub returns-then-not-is_ascii_digit : goal.returns-then-not-is_ascii_digit
returns-then-not-is_ascii_digit c = digits_stop _ c.loop-at.invariant c.loop-at-test.true (sym (digit_same _) ∙ sym c.is_ascii_digit.ensures.value ∙ c.if-not-is_ascii_digit.true)

pub loop-at-preserved : goal.loop-at-preserved
loop-at-preserved c = digits_on _ c.loop-at.invariant c.loop-at-test.true (sym (digit_same _) ∙ sym c.is_ascii_digit.ensures.value ∙ c.if-not-is_ascii_digit.false) c.with_digit-value.ensures.0 c.with_digit-value.ensures.1

pub returns : goal.returns
returns c = digits_end _ c.loop-at.invariant c.loop-at-test.false
