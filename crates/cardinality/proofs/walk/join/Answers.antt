use Rattle.cardinality.proofs.Steps.{join_low, join_high, join_asks, join_done}
use Rattle.cardinality.proofs.walk.join.Goals as goal

pub part-below-requires : goal.part-below-requires
part-below-requires c = join_low c.requires c.low_link_of.result.0 c.low_link_of.ensures

pub part-above-requires : goal.part-above-requires
part-above-requires c = join_high c.requires c.high_link_of.result.0 c.high_link_of.ensures

pub note-requires : goal.note-requires
note-requires c = join_asks c.requires c.low_link_of.result.0 c.low_link_of.ensures c.part-below.ensures c.high_link_of.result.0 c.high_link_of.ensures c.part-above.ensures

pub returns : goal.returns
returns c = join_done c.requires c.low_link_of.result.0 c.low_link_of.ensures c.part-below.ensures c.high_link_of.result.0 c.high_link_of.ensures c.part-above.ensures c.note.ensures
