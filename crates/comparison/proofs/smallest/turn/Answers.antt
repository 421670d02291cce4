use Rattle.comparison.proofs.Search.{turn_skips, turn_low_small, turn_low, turn_high}
use Rattle.comparison.proofs.smallest.turn.Goals as goal

pub returns-then-here-variable : goal.returns-then-here-variable
returns-then-here-variable c = turn_skips c.requires.0 c.requires.1 c.level_at-here.ensures c.if-here-variable.true

pub differs_at-requires : goal.differs_at-requires
differs_at-requires c = turn_low_small c.requires.0 c.requires.1 c.level_at-here.ensures c.if-here-variable.false c.low_at-low.ensures

pub returns-then-differs_at : goal.returns-then-differs_at
returns-then-differs_at c = turn_low c.requires.0 c.requires.1 c.level_at-here.ensures c.if-here-variable.false c.low_at-low.ensures c.differs_at.ensures c.if-differs_at.true

pub returns : goal.returns
returns c = turn_high c.requires.0 c.requires.1 c.level_at-here.ensures c.if-here-variable.false c.low_at-low.ensures c.differs_at.ensures c.if-differs_at.false c.high_at-high.ensures
