use Rattle.writing.proofs.Laws.{still_next, still_none, zeros_next, zeros_none}
use Rattle.writing.proofs.write_zeros.Goals as goal

pub loop-preserved : goal.loop-preserved
loop-preserved c = still_next c.loop.invariant (zeros_next _ _ c.loop-test.true) c.put-place.ensures

pub returns : goal.returns
returns c = still_none c.loop.invariant (zeros_none _ _ c.loop-test.false)
