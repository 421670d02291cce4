use Rattle.store.proofs.Joining.{forgotten}
use Rattle.store.proofs.shelf.forget.Goals as goal

pub returns : goal.returns
returns c = forgotten c.requires c.clear.ensures
