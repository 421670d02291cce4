use Rattle.request.proofs.Asking.{if_parsed, if_answered, aims_size, aims_cases, aims_hex, aims_which, aims_none}
use mathlib.Core.Path.{refl, ◌∙◌}
use Rattle.request.proofs.aim.Goals as goal

pub returns-then-same : goal.returns-then-same
returns-then-same c = aims_size c.args.keep c.args.as_is c.args.kind.now c.args.number.now c.same.ensures c.if-same.true (c.by_size.ensures ∙ if_parsed c.args.keep c.args.as_is _ c.parse_decimal.ensures)

pub returns-then-same-2 : goal.returns-then-same-2
returns-then-same-2 c = aims_cases c.args.keep c.args.as_is c.args.kind.now c.args.number.now c.same.ensures c.if-same.false c.same-2.ensures c.if-same-2.true (c.by_count.ensures ∙ if_answered c.args.keep c.args.as_is _ c.parse_natural.result c.parse_natural.ensures)

pub returns-then-same-3 : goal.returns-then-same-3
returns-then-same-3 c = aims_hex c.args.keep c.args.as_is c.args.kind.now c.args.number.now c.same.ensures c.if-same.false c.same-2.ensures c.if-same-2.false c.same-3.ensures c.if-same-3.true (c.by_count-then-same-3.ensures ∙ if_answered c.args.keep c.args.as_is _ c.parse_hexadecimal.result c.parse_hexadecimal.ensures)

pub returns-then-same-4 : goal.returns-then-same-4
returns-then-same-4 c = aims_which c.args.keep c.args.as_is c.args.kind.now c.args.number.now c.same.ensures c.if-same.false c.same-2.ensures c.if-same-2.false c.same-3.ensures c.if-same-3.false c.same-4.ensures c.if-same-4.true refl

pub returns : goal.returns
returns c = aims_none c.args.keep c.args.as_is c.args.kind.now c.args.number.now c.same.ensures c.if-same.false c.same-2.ensures c.if-same-2.false c.same-3.ensures c.if-same-3.false c.same-4.ensures c.if-same-4.false refl
