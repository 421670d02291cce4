use Rattle.summary_fresh.proofs.Afresh.{same_all, same_not}
use native.Mathlib.Omega.{arith}
use Rattle.summary_fresh.proofs.agree.is_same.Goals as goal

pub returns-then-word : goal.returns-then-word
returns-then-word c = same_not c.args.kept.now c.args.fresh.now c.loop-at-test.true c.word.ensures c.word-in-loop-at.ensures c.if-word.true

pub returns : goal.returns
returns c = same_all c.args.kept.now c.args.fresh.now c.loop-at.invariant.0 (let h = c.loop-at-test.false in omega arith) c.requires.0 c.requires.1
