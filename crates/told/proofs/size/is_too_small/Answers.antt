use Rattle.told.proofs.Small.{small_none, small_below, small_many, small_one}
use native.Mathlib.Omega.{arith}
use Rattle.told.proofs.size.is_too_small.Goals as goal

pub returns-then-target-eq0 : goal.returns-then-target-eq0
returns-then-target-eq0 c = (λ a is. small_none c.args.above c.args.words.now c.args.target (omega (arith, c.if-target-eq0.true)))

pub returns-then-not-above : goal.returns-then-not-above
returns-then-not-above c = (λ a is. small_below c.args.above c.args.words.now c.args.target (λ none. omega (arith, none, c.if-target-eq0.false)) (c.if-not-above.true))

pub returns-then-target-ne1 : goal.returns-then-target-ne1
returns-then-target-ne1 c = (λ a is. small_many c.args.above c.args.words.now c.args.target (λ none. omega (arith, none, c.if-target-eq0.false)) c.if-target-ne1.true)

pub returns : goal.returns
returns c = (λ a is. small_one c.args.above c.args.words.now c.args.target c.if-target-ne1.false (c.if-not-above.false) (c.holds_somewhere.ensures a is))
