use Rattle.weights.proofs.Ascent.{turn_low, turn_high, turn_asks, turn_done}
use Rattle.weights.proofs.up.pass_on.Goals as goal

pub give-requires : goal.give-requires
give-requires c = turn_low c.requires c.low_link_of-low.result.0 c.low_link_of-low.ensures

pub give-requires-2 : goal.give-requires-2
give-requires-2 c = turn_high c.requires c.low_link_of-low.result.0 c.low_link_of-low.ensures c.give.ensures c.high_link_of-high.result.0 c.high_link_of-high.ensures

pub weigh_node-requires : goal.weigh_node-requires
weigh_node-requires c = turn_asks c.requires c.low_link_of-low.result.0 c.low_link_of-low.ensures c.give.ensures c.high_link_of-high.result.0 c.high_link_of-high.ensures c.give-2.ensures

pub returns : goal.returns
returns c = turn_done c.requires c.low_link_of-low.result.0 c.low_link_of-low.ensures c.give.ensures c.high_link_of-high.result.0 c.high_link_of-high.ensures c.give-2.ensures c.weigh_node.ensures
