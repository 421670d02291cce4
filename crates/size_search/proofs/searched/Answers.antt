use Rattle.size_search.proofs.Early.{searching_prepares, prepared_halves, searched_found}
use native.Mathlib.Omega.{arith}
use Rattle.size_search.proofs.searched.Goals as goal

pub prepare-requires : goal.prepare-requires
prepare-requires c = searching_prepares c.requires.0 c.requires.1 c.requires.2

pub search-requires : goal.search-requires
search-requires c = prepared_halves c.requires.0 c.requires.1 c.requires.2 c.prepare.ensures (omega arith)

pub returns : goal.returns
returns c = searched_found c.requires.0 c.requires.1 c.requires.2 c.prepare.ensures c.search.ensures
