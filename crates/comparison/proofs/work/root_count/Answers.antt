use Rattle.comparison.proofs.Answers.{root_there, root_fits, root_done}
use Rattle.comparison.proofs.work.root_count.Goals as goal

pub unwrap-below-requires : goal.unwrap-below-requires
unwrap-below-requires c = root_there c.requires c.count_from.ensures c.load.ensures

pub unwrap-requires : goal.unwrap-requires
unwrap-requires c = root_fits c.requires c.count_from.ensures c.load.ensures c.unwrap-below.ensures c.level_at-above.ensures c.shift_left.ensures

pub returns : goal.returns
returns c = root_done c.requires c.count_from.ensures c.load.ensures c.unwrap-below.ensures c.level_at-above.ensures c.shift_left.ensures c.unwrap.ensures
