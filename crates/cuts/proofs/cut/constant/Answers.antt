use Rattle.cuts.proofs.Steps.{false_written, true_written}
use Rattle.cuts.proofs.cut.constant.Goals as goal

pub returns-then-target-eq0 : goal.returns-then-target-eq0
returns-then-target-eq0 c = false_written c.args.room.now c.args.at c.args.target.0 c.args.vars c.put.ensures c.put-2.ensures c.put-3.ensures c.if-target-eq0.true

pub returns : goal.returns
returns c = true_written c.args.room.now c.args.at c.args.target.0 c.args.vars c.put.ensures c.put-2.ensures c.put-3.ensures c.if-target-eq0.false c.put-4.ensures c.put-5.ensures c.put-6.ensures
