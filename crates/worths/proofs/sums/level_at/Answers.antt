use Rattle.worths.proofs.Places.{level_is}
use Rattle.worths.proofs.sums.level_at.Goals as goal

pub returns : goal.returns
returns c = level_is c.requires c.first_at-p.ensures c.second_at-q.ensures c.level.ensures
