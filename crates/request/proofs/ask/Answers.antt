use mathlib.Core.Path.{refl}
use Rattle.request.proofs.Asking.{asks_help, asks_three, asks_others, asks_as_is, asks_none}
use Rattle.request.proofs.ask.Goals as goal

pub returns-then-count-eq0 : goal.returns-then-count-eq0
returns-then-count-eq0 c = asks_help c.args.count c.args.direction.now c.args.kind.now c.args.number.now c.args.flag.now c.if-count-eq0.true refl

pub returns-then-count-eq3 : goal.returns-then-count-eq3
returns-then-count-eq3 c = asks_three c.args.count c.args.direction.now c.args.kind.now c.args.number.now c.args.flag.now c.if-count-eq0.false c.if-count-eq3.true c.direct.ensures

pub returns-then-count-ne4 : goal.returns-then-count-ne4
returns-then-count-ne4 c = asks_others c.args.count c.args.direction.now c.args.kind.now c.args.number.now c.args.flag.now c.if-count-eq0.false c.if-count-eq3.false c.if-count-ne4.true refl

pub returns-then-same : goal.returns-then-same
returns-then-same c = asks_as_is c.args.count c.args.direction.now c.args.kind.now c.args.number.now c.args.flag.now c.if-count-eq0.false c.if-count-eq3.false c.if-count-ne4.false c.same.ensures c.if-same.true c.direct-then-same.ensures

pub returns : goal.returns
returns c = asks_none c.args.count c.args.direction.now c.args.kind.now c.args.number.now c.args.flag.now c.if-count-eq0.false c.if-count-eq3.false c.if-count-ne4.false c.same.ensures c.if-same.false refl
