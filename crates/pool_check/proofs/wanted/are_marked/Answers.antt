use Rattle.pool_check.proofs.Marking.{is_marked, lost_is}
use Rattle.pool_check.proofs.Scans.{each_hit, each_end}
use Rattle.pool_check.proofs.wanted.are_marked.Goals as goal

pub returns-then-is_lost : goal.returns-then-is_lost
returns-then-is_lost c = each_hit c.args.table.now (is_marked c.args.marks.now) c.loop-p.p c.loop-p.invariant.from c.loop-p-test.true (lost_is c.args.table.now c.args.marks.now c.loop-p.p c.is_lost.ensures) c.if-is_lost.true

pub returns : goal.returns
returns c = each_end c.args.table.now (is_marked c.args.marks.now) c.loop-p.p c.loop-p.invariant c.loop-p-test.false
