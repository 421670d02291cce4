use Rattle.targets.proofs.Hitting.{targeting_searches, found_gives, found_hits}
use Rattle.targets.proofs.size.under.Goals as goal

pub under_size-found-requires : goal.under_size-found-requires
under_size-found-requires c = (targeting_searches c.requires.0, c.requires.1)

pub give-requires : goal.give-requires
give-requires c = found_gives c.requires.0 c.most.ensures c.under_size-found.ensures

pub returns : goal.returns
returns c = found_hits c.requires.0 c.most.ensures c.under_size-found.ensures c.give.ensures
