use mathlib.Core.Path.{refl, ◌∙◌}
use Rattle.pool_check.proofs.Marking.{linking_begin, linking_on, linking_end}
use native.Mathlib.Omega.{arith}
use Rattle.pool_check.proofs.wanted.mark_linked.Goals as goal

pub loop-p-init : goal.loop-p-init
loop-p-init c = (linking_begin c.args.table.now c.args.marks.now, omega arith, refl)

pub loop-p-preserved : goal.loop-p-preserved
loop-p-preserved c = (linking_on c.args.table.now c.args.marks.now c.loop-p.p c.loop-p.invariant.0 c.mark_children.ensures, omega arith, c.mark_children.auto.marks ∙ c.loop-p.invariant.2)

pub returns : goal.returns
returns c = linking_end c.args.table.now c.args.marks.now c.loop-p.p c.loop-p.invariant.0 c.loop-p-test.false c.loop-p.invariant.1
