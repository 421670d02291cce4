use mathlib.Core.Path.{refl}
use Rattle.request.proofs.Asking.{directs_keep, directs_suppress, directs_none}
use Rattle.request.proofs.direct.Goals as goal

pub returns-then-same : goal.returns-then-same
returns-then-same c = directs_keep c.args.as_is c.args.direction.now c.args.kind.now c.args.number.now c.same.ensures c.if-same.true c.aim.ensures

pub returns-then-same-2 : goal.returns-then-same-2
returns-then-same-2 c = directs_suppress c.args.as_is c.args.direction.now c.args.kind.now c.args.number.now c.same.ensures c.if-same.false c.same-2.ensures c.if-same-2.true c.aim-then-same-2.ensures

pub returns : goal.returns
returns c = directs_none c.args.as_is c.args.direction.now c.args.kind.now c.args.number.now c.same.ensures c.if-same.false c.same-2.ensures c.if-same-2.false refl
