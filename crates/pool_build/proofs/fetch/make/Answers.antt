use mathlib.Core.Path.{◌∙◌}
use Rattle.pool_build.proofs.Fetching.{make_walks, make_ends}
use Rattle.pool_build.proofs.fetch.make.Goals as goal

pub build-made-requires : goal.build-made-requires
build-made-requires c = make_walks c.requires c.clear.ensures c.clear.auto.room c.start.ensures c.start.auto.room

pub returns : goal.returns
returns c = make_ends c.requires c.clear.ensures c.clear.auto.room c.start.ensures c.start.auto.room c.build-made.ensures (c.build-made.auto.room ∙ c.start.auto.room ∙ c.clear.auto.room) c.to_index.ensures
