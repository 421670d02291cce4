use Rattle.evening.proofs.Calls.{aims_cases, aims_nodes}
use Rattle.evening.proofs.words.amount_of.Goals as goal

pub returns-then-setting-eq1 : goal.returns-then-setting-eq1
returns-then-setting-eq1 c = aims_cases c.args.setting c.if-setting-eq1.true

pub returns : goal.returns
returns c = aims_nodes c.args.setting c.requires.0 c.if-setting-eq1.false c.requires.1
