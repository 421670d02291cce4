use Rattle.pool_build.proofs.Fetching.{give_short, give_all}
use mathlib.Core.Path.{refl}
use Rattle.pool_build.proofs.fetch.give.Goals as goal

pub returns-then-output-count : goal.returns-then-output-count
returns-then-output-count c = give_short refl c.if-output-count.true

pub returns : goal.returns
returns c = give_all refl c.if-output-count.false c.requires.0 c.copy.auto.output c.copy.ensures
