use Rattle.counts.specs.Counted.{Counts}
use Rattle.houayletan.proofs.Flattening.{flat_count}
use Rattle.houayletan.proofs.houayletan_exact_clause_cardinality_3.Goals as goal

pub returns : goal.returns
returns c = flat_count (Counts _ _ _ _) c.exact_clause_cardinality.ensures _ c.from.ensures
