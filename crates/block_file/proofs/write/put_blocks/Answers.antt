use Prim.Native.Nat.{◌≤◌, ◌<◌}
use native.Mathlib.Omega.{arith}
use Rattle.diagram.specs.Diagram.{size}
use Rattle.writing.proofs.Laws.{still_part, still_none}
use Rattle.block_file.specs.File.{block_count}
use Rattle.block_file.proofs.Storing.{blocks_begin, blocks_step, blocks_end}
use Rattle.block_file.proofs.write.put_blocks.Goals as goal

pub loop-number-init : goal.loop-number-init
loop-number-init c = blocks_begin _ _

pub loop-number-preserved : goal.loop-number-preserved
loop-number-preserved c =
    let more : c.loop-number.number < block_count (size c.args.words.now) = omega (arith, c.loop-number-test.true, c.div_ceil-number-end.ensures) in
    still_part c.loop-number.invariant _ _ (blocks_step c.args.words.now c.loop-number.number more) c.put_block-place.ensures

pub returns : goal.returns
returns c =
    let over : block_count (size c.args.words.now) ≤ c.loop-number.number = omega (arith, c.loop-number-test.false, c.div_ceil-number-end.ensures) in
    still_none c.loop-number.invariant (blocks_end c.args.words.now c.loop-number.number over)
