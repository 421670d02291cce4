use Rattle.comparison.proofs.Answers.{differ_some, shown_some, shown_none}
use Rattle.comparison.proofs.work.shown.Goals as goal

pub smallest-requires : goal.smallest-requires
smallest-requires c = (c.requires, differ_some c.requires c.differs_at.ensures c.if-differs_at.true)

pub returns-then-differs_at : goal.returns-then-differs_at
returns-then-differs_at c = shown_some c.requires c.differs_at.ensures c.if-differs_at.true c.smallest.ensures

pub returns : goal.returns
returns c = shown_none c.requires c.differs_at.ensures c.if-differs_at.false
