use Rattle.comparison.proofs.Answers.{work_none, work_over, work_arrives, work_told}
use Rattle.comparison.proofs.work.work.Goals as goal

pub returns-then-capacity-eq0 : goal.returns-then-capacity-eq0
returns-then-capacity-eq0 c = work_none c.requires.0 c.args.table.now c.capacity_of-capacity.ensures c.if-capacity-eq0.true

pub returns-in_err-met : goal.returns-in_err-met
returns-in_err-met c =
    rw c.from_residual.ensures (work_over c.requires.0 c.args.table.now c.capacity_of-capacity.ensures c.walk.ensures c.in_err-met.was)

pub tell-requires : goal.tell-requires
tell-requires c = work_arrives c.requires.0 c.args.table.now c.capacity_of-capacity.ensures c.walk.ensures c.if-capacity-eq0.false c.in_ok-met.was c.walk.auto.table c.requires.1

pub returns : goal.returns
returns c = work_told c.requires.0 c.args.table.now c.capacity_of-capacity.ensures c.walk.ensures c.if-capacity-eq0.false c.in_ok-met.was c.tell.ensures
