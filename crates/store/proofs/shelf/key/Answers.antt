use Rattle.store.proofs.Zones.{key_fits}
use mathlib.Core.Path.{refl}
use Rattle.store.specs.Room.{key_of}
use Rattle.store.proofs.shelf.key.Goals as goal

pub overflow_mul-result : goal.overflow_mul-result
overflow_mul-result c = record { fits = key_fits _ c.args.capacity c.requires }

pub returns : goal.returns
unfolding key_of
returns c = refl
