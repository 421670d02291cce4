use Rattle.std.specs.Option.{option_copied}
use mathlib.Core.Path.{refl}
use Rattle.differing.proofs.Answering.{only_said, helped, not_known, is_compared}
use Rattle.differing.proofs.answer.answer.Goals as goal

pub returns-in-Help : goal.returns-in-Help
returns-in-Help c = helped c.args.first.now c.args.second.now c.args.third.now (option_copied c.args.old) (option_copied c.args.new) c.asked_of-asked.ensures c.in-Help.is (only_said (refl, c.write_help-end.ensures))

pub returns-in-Unknown : goal.returns-in-Unknown
returns-in-Unknown c = not_known c.args.first.now c.args.second.now c.args.third.now (option_copied c.args.old) (option_copied c.args.new) c.asked_of-asked.ensures c.in-Unknown.is (only_said (refl, c.write_unknown-end.ensures))

pub returns-in-Compare : goal.returns-in-Compare
returns-in-Compare c = is_compared c.args.first.now c.args.second.now c.args.third.now (option_copied c.args.old) (option_copied c.args.new) c.asked_of-asked.ensures c.in-Compare.is c.differ_named.ensures
