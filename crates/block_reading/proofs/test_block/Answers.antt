use Rattle.blocks.specs.Block.{nodes, block_nodes}
use mathlib.Core.Path.{ap}
use Rattle.blocks.specs.Block.{two}
use Prim.Native.Nat.{◌≤◌}
use mathlib.Core.Path.{sym, ◌∙◌}
use Rattle.blocks.proofs.Testing.{refused_21, refused_22, refused_23, refused_25, refused_24, refused_4, taken, held_few, due_small}
use native.Mathlib.Omega.{arith}
use Rattle.block_reading.proofs.test_block.Goals as goal

pub returns-then-block-lt-BLOCK : goal.returns-then-block-lt-BLOCK
returns-then-block-lt-BLOCK c = c.refused.ensures ∙ refused_21 c.args.block.now c.args.number c.args.stated c.args.lent c.if-block-lt-BLOCK.true

pub returns-then-not-sums_right : goal.returns-then-not-sums_right
returns-then-not-sums_right c = c.refused-then-not-sums_right.ensures ∙ refused_22 c.args.block.now c.args.number c.args.stated c.args.lent c.if-block-lt-BLOCK.false (sym c.sums_right.ensures ∙ c.if-not-sums_right.true)

pub returns-then-not-counts_right : goal.returns-then-not-counts_right
returns-then-not-counts_right c = c.refused-then-not-counts_right.ensures ∙ refused_23 c.args.block.now c.args.number c.args.stated c.args.lent c.if-block-lt-BLOCK.false (sym c.sums_right.ensures ∙ c.if-not-sums_right.false) (sym c.counts_right.ensures ∙ c.if-not-counts_right.true)

pub returns-then-nodes-gt-MOST : goal.returns-then-nodes-gt-MOST
returns-then-nodes-gt-MOST c = c.refused-then-nodes-gt-MOST.ensures ∙ refused_25 c.args.block.now c.args.number c.args.stated c.args.lent c.if-block-lt-BLOCK.false (sym c.sums_right.ensures ∙ c.if-not-sums_right.false) (sym c.counts_right.ensures ∙ c.if-not-counts_right.false) (omega (arith, c.if-nodes-gt-MOST.true, c.get_four-nodes.ensures))

pub unused_zero-clean-requires : goal.unused_zero-clean-requires
unused_zero-clean-requires c = (let h : two c.args.block.now 2 ≤ block_nodes = held_few c.args.block.now c.args.number c.args.stated (sym c.counts_right.ensures ∙ c.if-not-counts_right.false) in omega (arith, c.get_two-held.ensures.0), c.if-block-lt-BLOCK.false)

pub overflow_mul-fits : goal.overflow_mul-fits
overflow_mul-fits c = omega (arith, due_small c.args.block.now c.args.number c.args.stated (sym c.counts_right.ensures ∙ c.if-not-counts_right.false) (omega (arith, c.if-nodes-gt-MOST.false, c.get_four-nodes.ensures)))

pub overflow_add-fits : goal.overflow_add-fits
overflow_add-fits c = omega (arith, due_small c.args.block.now c.args.number c.args.stated (sym c.counts_right.ensures ∙ c.if-not-counts_right.false) (omega (arith, c.if-nodes-gt-MOST.false, c.get_four-nodes.ensures)), c.get_two-held.ensures.1)

pub returns-then-not-clean : goal.returns-then-not-clean
returns-then-not-clean c = c.refused-then-not-clean.ensures ∙ refused_24 c.args.block.now c.args.number c.args.stated c.args.lent c.if-block-lt-BLOCK.false (sym c.sums_right.ensures ∙ c.if-not-sums_right.false) (sym c.counts_right.ensures ∙ c.if-not-counts_right.false) (omega (arith, c.if-nodes-gt-MOST.false, c.get_four-nodes.ensures)) (rw c.get_two-held.ensures.0 at (sym c.unused_zero-clean.ensures ∙ c.if-not-clean.true))

pub returns-then-not-fits : goal.returns-then-not-fits
returns-then-not-fits c = c.refused-then-not-fits.ensures ∙ refused_4 c.args.block.now c.args.number c.args.stated c.args.lent c.if-block-lt-BLOCK.false (sym c.sums_right.ensures ∙ c.if-not-sums_right.false) (sym c.counts_right.ensures ∙ c.if-not-counts_right.false) (omega (arith, c.if-nodes-gt-MOST.false, c.get_four-nodes.ensures)) (rw c.get_two-held.ensures.0 at (sym c.unused_zero-clean.ensures ∙ c.if-not-clean.false)) (omega (arith, c.if-not-fits.true, c.get_two-held.ensures.0))

pub returns : goal.returns
returns c = ap nodes c.get_four-nodes.ensures ∙ taken c.args.block.now c.args.number c.args.stated c.args.lent c.if-block-lt-BLOCK.false (sym c.sums_right.ensures ∙ c.if-not-sums_right.false) (sym c.counts_right.ensures ∙ c.if-not-counts_right.false) (omega (arith, c.if-nodes-gt-MOST.false, c.get_four-nodes.ensures)) (rw c.get_two-held.ensures.0 at (sym c.unused_zero-clean.ensures ∙ c.if-not-clean.false)) (omega (arith, c.if-not-fits.false, c.get_two-held.ensures.0))
