use mathlib.Core.Path.{ap}
use lib.Ieee.{binary64, of_bits}
use Rattle.cardinality.proofs.table.count_at.Goals as goal

pub float_from_bits-result : goal.float_from_bits-result
float_from_bits-result c = rw c.bits_at.ensures c.requires.1

pub returns : goal.returns
returns c = ap (of_bits binary64) c.bits_at.ensures
