use Rattle.pool.specs.Pool.{is_right}
use Rattle.pool_check.proofs.Scans.{each_hit, each_end}
use Rattle.pool_check.proofs.nodes.are_right.Goals as goal

pub returns-then-is_wrong : goal.returns-then-is_wrong
returns-then-is_wrong c = each_hit c.args.table.now (is_right c.args.table.now) c.loop-p.p c.loop-p.invariant.from c.loop-p-test.true c.is_wrong.ensures c.if-is_wrong.true

pub returns : goal.returns
returns c = each_end c.args.table.now (is_right c.args.table.now) c.loop-p.p c.loop-p.invariant c.loop-p-test.false
