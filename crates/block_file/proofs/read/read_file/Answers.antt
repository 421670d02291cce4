use Rattle.block_file.proofs.Steps.{reads_tail}
use Rattle.block_file.proofs.Steps.{onward_begins, onward_refused, onward_next, onward_ends, onward_over}
use Rattle.diagram.proofs.Accepting.{passed_on}
use native.Mathlib.Omega.{arith}
use Rattle.block_file.proofs.read.read_file.Goals as goal

pub loop-number-init : goal.loop-number-init
loop-number-init c = onward_begins _ _

pub slice_bounds-read_block-count : goal.slice_bounds-read_block-count
slice_bounds-read_block-count c = omega (arith, c.loop-number.invariant.room)

pub shape_of-output-in_err-stated : goal.shape_of-output-in_err-stated
shape_of-output-in_err-stated c = omega (arith, c.read_block.auto.output, c.loop-number.invariant.same)

pub returns-in_err-stated : goal.returns-in_err-stated
returns-in_err-stated c = rw (passed_on c.from_residual.result c.in_err-stated.field-0.0 c.from_residual.ensures.1) (onward_refused c.loop-number.invariant c.loop-number-test.true (reads_tail c.args.bytes.now _ c.read_block.ensures) c.in_err-stated.was)

pub shape_of-output-then-stated-due : goal.shape_of-output-then-stated-due
shape_of-output-then-stated-due c = omega (arith, c.read_block.auto.output, c.loop-number.invariant.same)

pub returns-then-stated-due : goal.returns-then-stated-due
returns-then-stated-due c = onward_ends c.loop-number.invariant c.loop-number-test.true (reads_tail c.args.bytes.now _ c.read_block.ensures) c.in_ok-stated.was c.if-stated-due.true c.end_of.ensures

pub loop-number-preserved : goal.loop-number-preserved
loop-number-preserved c = onward_next c.loop-number.invariant c.loop-number-test.true (reads_tail c.args.bytes.now _ c.read_block.ensures) c.in_ok-stated.was c.read_block.auto.output c.if-stated-due.false

pub shape_of-output : goal.shape_of-output
shape_of-output c = c.loop-number.invariant.same

pub returns : goal.returns
returns c = onward_over c.loop-number.invariant (omega arith)
