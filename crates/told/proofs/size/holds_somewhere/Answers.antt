use Rattle.told.proofs.Somewhere.{two_somewhere, first_somewhere}
use native.Mathlib.Omega.{arith}
use Rattle.told.proofs.size.holds_somewhere.Goals as goal

pub returns-then-nodes-eq2 : goal.returns-then-nodes-eq2
returns-then-nodes-eq2 c = (λ a is. two_somewhere c.args.words.now a is (omega (arith, c.if-nodes-eq2.true)))

pub returns : goal.returns
returns c = (λ a is. first_somewhere c.args.words.now a is (λ two. omega (arith, two, c.if-nodes-eq2.false)) c.first_to_one.ensures)
