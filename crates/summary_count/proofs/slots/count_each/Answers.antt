use Rattle.summary_count.proofs.Turns.{up_all}
use native.Mathlib.Omega.{arith}
use Rattle.summary_count.proofs.slots.count_each.Goals as goal

pub returns : goal.returns
returns c = up_all _ _ _ (let h = c.loop-k-test.false in omega arith) c.loop-k.invariant
