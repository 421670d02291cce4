use Rattle.writing.proofs.Laws.{wrote_none}
use Rattle.evening.proofs.show.write_flag.Goals as goal

pub returns-then-as_is : goal.returns-then-as_is
returns-then-as_is c = rw c.if-as_is.true c.write.ensures

pub returns : goal.returns
returns c = rw c.if-as_is.false (wrote_none _ _)
