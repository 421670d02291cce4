use lib.ListN.{length-set}
use mathlib.Core.Path.{sym, ◌∙◌}
use Rattle.cases.proofs.Reading.{line_full, line_over, line_done, line_again}
use native.Mathlib.Omega.{arith}
use Rattle.cases.proofs.words_of.Goals as goal

pub returns-then-words-count : goal.returns-then-words-count
returns-then-words-count c = (c.loop-at.invariant.fits, c.loop-at.invariant.low, c.loop-at.invariant.high, line_full _ c.loop-at.invariant c.if-words-count.true)

pub returns-then-line_ends : goal.returns-then-line_ends
returns-then-line_ends c = (simp length-set (omega (arith, c.if-words-count.false)), omega (arith, c.number-token.ensures, c.loop-at.invariant.low), c.number-token.ensures.1, line_done _ c.loop-at.invariant c.loop-at-test.true (omega (arith, c.if-words-count.false)) c.number-token.ensures.2 c.number-token.ensures.3 (c.number-token.ensures.0, c.number-token.ensures.1) (sym c.line_ends.ensures ∙ c.if-line_ends.true))

pub loop-at-preserved : goal.loop-at-preserved
loop-at-preserved c = line_again _ c.loop-at.invariant c.loop-at-test.true (omega (arith, c.if-words-count.false)) c.number-token.ensures.2 c.number-token.ensures.3 (c.number-token.ensures.0, c.number-token.ensures.1) (sym c.line_ends.ensures ∙ c.if-line_ends.false)

pub returns : goal.returns
returns c = (c.loop-at.invariant.fits, c.loop-at.invariant.low, c.loop-at.invariant.high, line_over _ c.loop-at.invariant (omega (arith, c.loop-at-test.false)))
