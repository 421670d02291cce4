use Rattle.count_targets.proofs.count.hit.Goals as goal

pub over-requires : goal.over-requires
over-requires c = rw c.if-above.true at c.requires

pub returns-then-above : goal.returns-then-above
returns-then-above c = rw c.if-above.true c.over.ensures

pub under-requires : goal.under-requires
under-requires c = rw c.if-above.false at c.requires

pub returns : goal.returns
returns c = rw c.if-above.false c.under.ensures
