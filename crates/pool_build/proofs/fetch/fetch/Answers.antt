use lib.Seq.{length-take-le}
use mathlib.Core.Path.{sym}
use Rattle.pool_build.proofs.Fetching.{fetch_part, fetch_makes, fetched}
use Rattle.pool_build.proofs.fetch.fetch.Goals as goal

pub slice_bounds-make-end : goal.slice_bounds-make-end
slice_bounds-make-end c = sym (length-take-le c.walked-part.result c.args.table.now (fetch_part c.requires c.walked-part.ensures))

pub make-count-requires : goal.make-count-requires
make-count-requires c = fetch_makes c.requires c.walked-part.ensures

pub returns : goal.returns
returns c = fetched c.requires c.walked-part.ensures c.make-count.ensures c.make-count.auto.room c.args.output.now c.give-verdict.ensures c.clear.ensures
