use Rattle.pool_build.proofs.Replacing.{blank_lent}
use Rattle.pool_build.proofs.remove.remove.Goals as goal

pub remove_in-requires : goal.remove_in-requires
remove_in-requires c = (c.requires, blank_lent)
