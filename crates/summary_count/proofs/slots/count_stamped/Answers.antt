use Rattle.summary_count.proofs.Turns.{one_next}
use native.Mathlib.Omega.{arith}
use Rattle.summary_count.proofs.slots.count_stamped.Goals as goal

pub loop-i-preserved : goal.loop-i-preserved
loop-i-preserved c = (one_next _ _ _ _ c.requires _ c.loop-i.invariant.0 c.loop-i-test.true c.count_if_stamped.ensures, (let h = c.loop-i-test.true in omega arith))
