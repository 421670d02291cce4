use mathlib.Core.Path.{ap}
use Rattle.std.specs.Option.{option_copied}
use Rattle.evening.proofs.Calls.{does_stored, missed}
use Rattle.evening.proofs.answer.settle.Goals as goal

pub returns-in-Some : goal.returns-in-Some
returns-in-Some c = does_stored c.args.form c.args.bytes.now (ap option_copied c.in-Some.is) c.obey.ensures

pub returns-in-None : goal.returns-in-None
returns-in-None c = missed c.args.form c.args.bytes.now (ap option_copied c.in-None.is) c.miss.ensures
