use mathlib.Core.Path.{◌≡◌}
use lib.ListN.{length, take}
use mathlib.Core.Path.{sym}
use lib.Seq.{length-take-le}
use Rattle.blocks.proofs.Testing.{sum_wrong, sum_decides}
use native.Mathlib.Omega.{arith}
use Rattle.blocks.proofs.sums.sums_right.Goals as goal

pub slice_bounds-sum-end : goal.slice_bounds-sum-end
slice_bounds-sum-end c = sym (length-take-le 508 c.args.block.now (omega arith))

pub sum-requires : goal.sum-requires
sum-requires c = let h : length (take 508 c.args.block.now) ≡ 508 = length-take-le 508 c.args.block.now (omega arith) in omega arith

pub returns-then-get_two-sum : goal.returns-then-get_two-sum
returns-then-get_two-sum c = sum_wrong c.args.block.now c.get_two.ensures.0 c.sum.ensures c.if-get_two-sum.true

pub slice_bounds-weighted_sum-end : goal.slice_bounds-weighted_sum-end
slice_bounds-weighted_sum-end c = sym (length-take-le 508 c.args.block.now (omega arith))

pub weighted_sum-requires : goal.weighted_sum-requires
weighted_sum-requires c = let h : length (take 508 c.args.block.now) ≡ 508 = length-take-le 508 c.args.block.now (omega arith) in omega arith

pub returns : goal.returns
returns c = sum_decides c.args.block.now c.get_two.ensures.0 c.sum.ensures c.if-get_two-sum.false c.get_two-2.ensures.0 c.weighted_sum.ensures
