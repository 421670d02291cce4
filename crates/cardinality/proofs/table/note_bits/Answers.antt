use Prim.Native.Nat.{◌+◌, ◌*◌, ◌%◌}
use lib.ListN.{length-set}
use Rattle.cardinality.proofs.Bits.{bits_noted}
use native.Mathlib.Omega.{arith}
use Rattle.cardinality.proofs.table.note_bits.Goals as goal

pub bounds-room-at-2 : goal.bounds-room-at-2
bounds-room-at-2 c = omega (arith, c.requires, c.to_index.ensures, length-set c.args.room.now (c.args.base + 2 * c.to_index.result) (c.args.bits % 4294967296))

pub returns : goal.returns
returns c = bits_noted c.args.room.now c.args.base c.args.node.0 c.to_index.result c.args.bits c.to_index.ensures c.requires
