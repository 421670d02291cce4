use Rattle.pool_build.proofs.Replacing.{blank_lent}
use Rattle.pool_build.proofs.place.place.Goals as goal

pub place_in-requires : goal.place_in-requires
place_in-requires c = (c.requires, blank_lent)
