use Rattle.counts.specs.Worth.{doublings}
use Rattle.counts.proofs.root.doublings.Goals as goal

pub returns-then-valuations : goal.returns-then-valuations
unfolding doublings
returns-then-valuations c = rw c.if-valuations.true

pub returns-else-valuations : goal.returns-else-valuations
unfolding doublings
returns-else-valuations c = rw c.if-valuations.false
