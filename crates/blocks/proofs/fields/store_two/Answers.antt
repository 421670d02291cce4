use Rattle.blocks.proofs.Places.{wrote_two}
use mathlib.Core.Path.{refl}
use Rattle.blocks.proofs.fields.store_two.Goals as goal

pub returns : goal.returns
returns c = (refl, wrote_two c.args.out.now c.args.at _ _ c.requires)
