use Rattle.cases.proofs.Reading.{ends_first, ends_past, ends_by}
use native.Mathlib.Omega.{arith}
use Rattle.cases.proofs.line_ends.Goals as goal

pub returns-then-at-eq0 : goal.returns-then-at-eq0
returns-then-at-eq0 c = ends_first c.args.text.now c.args.at c.if-at-eq0.true

pub returns-then-text-at : goal.returns-then-text-at
returns-then-text-at c = ends_past c.args.text.now c.args.at c.if-at-eq0.false c.if-text-at.true

pub returns : goal.returns
returns c = ends_by c.args.text.now c.args.at c.if-at-eq0.false (omega (arith, c.if-text-at.false))
