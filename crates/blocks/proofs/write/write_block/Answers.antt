use lib.ListN.{length, take}
use mathlib.Core.Path.{◌≡◌, sym}
use lib.Seq.{length-take-le}
use Rattle.blocks.proofs.Front.{front_stands, wrote_block_sealed}
use Rattle.blocks.specs.Block.{block_bytes, summed}
use native.Mathlib.Omega.{arith}
use Rattle.blocks.proofs.write.write_block.Goals as goal

pub slice_bounds-write_sealed-end : goal.slice_bounds-write_sealed-end
slice_bounds-write_sealed-end c = let h : length c.put_front.new.out ≡ block_bytes = c.put_front.auto.out in sym (length-take-le summed c.put_front.new.out (omega arith))

pub write_sealed-requires : goal.write_sealed-requires
write_sealed-requires c = let h : length c.put_front.new.out ≡ block_bytes = c.put_front.auto.out in let k : length (take summed c.put_front.new.out) ≡ summed = length-take-le summed c.put_front.new.out (omega arith) in omega arith

pub returns : goal.returns
returns c = wrote_block_sealed c.args.nodes c.args.number c.args.words.now (front_stands c.args.nodes c.args.number c.args.words.now c.requires.few (omega arith) c.put_front.ensures) c.write_sealed.ensures
