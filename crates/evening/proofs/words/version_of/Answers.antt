use Rattle.evening.proofs.Calls.{version_two, version_one}
use Rattle.evening.proofs.words.version_of.Goals as goal

pub returns-then-as_is : goal.returns-then-as_is
returns-then-as_is c = version_two _ c.if-as_is.true

pub returns-else-as_is : goal.returns-else-as_is
returns-else-as_is c = version_one _ c.if-as_is.false
