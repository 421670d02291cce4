use Rattle.writing.proofs.Laws.{still_next, still_none, drop_next, drop_none}
use Rattle.writing.proofs.write.Goals as goal

pub loop-byte-preserved : goal.loop-byte-preserved
loop-byte-preserved c = still_next c.loop-byte.invariant (drop_next _ _ c.loop-byte-test.true) c.put-place.ensures

pub returns : goal.returns
returns c = still_none c.loop-byte.invariant (drop_none _ _ c.loop-byte-test.false)
