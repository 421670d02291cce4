use Rattle.exact_counts.proofs.Answers.{count_as}
use Rattle.counts.proofs.Nodes.{total_paths}
use Rattle.exact_counts.proofs.exact_clause_cardinality.Goals as goal

pub returns : goal.returns
returns c = count_as _ _ (total_paths c.args.words.now) c.count_by.ensures
