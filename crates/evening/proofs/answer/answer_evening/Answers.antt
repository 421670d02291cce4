use Rattle.std.specs.Option.{option_copied}
use Rattle.evening.proofs.Calls.{does_settled, does_asked}
use Rattle.evening.proofs.answer.answer_evening.Goals as goal

pub returns-then-names_settings : goal.returns-then-names_settings
returns-then-names_settings c = does_settled c.args.count c.args.first.now c.args.second.now c.args.third.now c.args.fourth.now c.args.fifth.now (option_copied c.args.settings) c.names_settings.ensures c.args.bytes.now c.if-names_settings.true c.form_of.ensures c.settle.ensures

pub returns : goal.returns
returns c = does_asked c.args.count c.args.first.now c.args.second.now c.args.third.now c.args.fourth.now c.args.fifth.now (option_copied c.args.settings) c.names_settings.ensures c.args.bytes.now c.if-names_settings.false c.answer.ensures
