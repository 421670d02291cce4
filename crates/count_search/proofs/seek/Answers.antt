use Rattle.count_search.proofs.Aims.{above_weighs, above_unmarkable, above_seeking, above_found}
use native.Mathlib.Omega.{arith}
use Rattle.count_search.proofs.seek.Goals as goal

pub prepare_counted-requires : goal.prepare_counted-requires
prepare_counted-requires c = above_weighs c.requires

pub unmark-requires : goal.unmark-requires
unmark-requires c = above_unmarkable c.requires c.prepare_counted.ensures

pub search-requires : goal.search-requires
search-requires c = above_seeking c.requires c.prepare_counted.ensures c.unmark.ensures (omega arith)

pub returns : goal.returns
returns c = above_found c.requires c.prepare_counted.ensures c.unmark.ensures c.search.ensures
