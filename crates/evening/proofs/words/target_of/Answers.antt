use Rattle.evening.proofs.Calls.{asks}
use Rattle.evening.proofs.words.target_of.Goals as goal

pub amount_of-requires : goal.amount_of-requires
amount_of-requires c = c.requires

pub returns : goal.returns
returns c = asks c.args.setting c.amount_of.ensures
