use mathlib.Core.Path.{◌∙◌}
use Rattle.cuts.proofs.Cutting.{shelf_space, shelf_asked, shelf_built}
use Rattle.cuts.proofs.cut.build.Goals as goal

pub forget-requires : goal.forget-requires
forget-requires c = shelf_space c.requires c.most-base.ensures c.clear.auto.room

pub make-requires : goal.make-requires
make-requires c = shelf_asked c.requires c.most-base.ensures c.clear.ensures (c.forget.auto.room ∙ c.clear.auto.room) c.forget.ensures

pub returns : goal.returns
returns c = shelf_built c.make.ensures (c.make.auto.room ∙ c.forget.auto.room ∙ c.clear.auto.room)
