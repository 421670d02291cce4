use Rattle.cardinality.proofs.Steps.{part_few, part_asks, part_done}
use Rattle.cardinality.proofs.walk.part.Goals as goal

pub power_of_two-factor-requires : goal.power_of_two-factor-requires
power_of_two-factor-requires c = part_few c.requires c.var_of-here.result.0 c.var_of-there.result.0 c.var_of-here.ensures c.var_of-there.ensures

pub count_at-requires : goal.count_at-requires
count_at-requires c = part_asks c.requires

pub returns : goal.returns
returns c = part_done c.requires c.var_of-here.result.0 c.var_of-there.result.0 c.var_of-here.ensures c.var_of-there.ensures c.power_of_two-factor.ensures c.count_at.ensures
