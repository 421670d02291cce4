use Rattle.exact_counts.proofs.Descent.{join_asks, join_done}
use Rattle.exact_counts.proofs.down.join.Goals as goal

pub note_sum-requires : goal.note_sum-requires
note_sum-requires c = join_asks c.requires

pub returns : goal.returns
returns c = join_done c.requires c.note_sum.ensures
