use Rattle.std.specs.Option.{option_copied}
use Rattle.evening.proofs.Calls.{looks_settled, looks_asked}
use Rattle.evening.proofs.answer.wants_evening_input.Goals as goal

pub returns-then-names_settings : goal.returns-then-names_settings
returns-then-names_settings c = looks_settled c.args.count c.args.first.now c.args.second.now c.args.third.now c.args.fourth.now c.args.fifth.now (option_copied c.args.settings) c.names_settings.ensures c.if-names_settings.true c.settles.ensures

pub returns : goal.returns
returns c = looks_asked c.args.count c.args.first.now c.args.second.now c.args.third.now c.args.fourth.now c.args.fifth.now (option_copied c.args.settings) c.names_settings.ensures c.if-names_settings.false c.wants_input.ensures
