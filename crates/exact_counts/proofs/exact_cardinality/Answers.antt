use Rattle.exact_counts.proofs.Answers.{count_as}
use Rattle.counts.proofs.Nodes.{total_valuations}
use Rattle.exact_counts.proofs.exact_cardinality.Goals as goal

pub returns : goal.returns
returns c = count_as _ _ (total_valuations c.args.words.now) c.count_by.ensures
