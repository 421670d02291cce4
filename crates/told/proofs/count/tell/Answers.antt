use Rattle.told.proofs.count.tell.Goals as goal

pub returns-then-above : goal.returns-then-above
returns-then-above c = rw c.if-above.true c.over_told.ensures

pub returns : goal.returns
returns c = rw c.if-above.false c.under_told.ensures
