use Rattle.weights.proofs.Entries.{emptied}
use Rattle.weights.proofs.up.empty.Goals as goal

pub returns : goal.returns
returns c = emptied c.requires.1 c.blank.ensures
