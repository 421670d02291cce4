use Rattle.cardinality.proofs.Bits.{nought_bits}
use Rattle.cardinality.proofs.floats.nought.Goals as goal

pub returns : goal.returns
returns c = nought_bits
