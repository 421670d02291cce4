use Rattle.evening.proofs.show.write_direction.Goals as goal

pub returns-then-keep : goal.returns-then-keep
returns-then-keep c = rw c.if-keep.true c.write.ensures

pub returns : goal.returns
returns c = rw c.if-keep.false c.write-2.ensures
