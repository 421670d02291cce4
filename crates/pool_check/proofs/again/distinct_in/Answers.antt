use Rattle.pool_check.proofs.Chaining.{is_first, again_is}
use Rattle.pool_check.proofs.Scans.{each_hit, each_end}
use Rattle.pool_check.proofs.again.distinct_in.Goals as goal

pub returns-then-meet : goal.returns-then-meet
returns-then-meet c = each_hit c.args.table.now (is_first c.args.table.now) c.loop-p.p c.loop-p.invariant.0.from c.loop-p-test.true (again_is c.args.table.now c.loop-p.p c.meet.ensures.says) c.if-meet.true

pub returns : goal.returns
returns c = each_end c.args.table.now (is_first c.args.table.now) c.loop-p.p c.loop-p.invariant.0 c.loop-p-test.false
