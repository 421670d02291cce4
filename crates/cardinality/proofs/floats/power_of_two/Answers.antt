use Rattle.cardinality.proofs.Bits.{power_bits, power_no_nan}
use Rattle.cardinality.proofs.floats.power_of_two.Goals as goal

pub float_from_bits-result : goal.float_from_bits-result
float_from_bits-result c = power_no_nan c.args.k c.requires

pub returns : goal.returns
returns c = power_bits c.args.k c.requires
