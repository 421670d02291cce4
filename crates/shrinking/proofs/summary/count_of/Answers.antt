use Rattle.shrinking.proofs.Counting.{is_counted, count_is}
use Rattle.shrinking.proofs.summary.count_of.Goals as goal

pub unwrap-requires : goal.unwrap-requires
unwrap-requires c = is_counted c.args.words.now _ _ c.exact_cardinality.result c.exact_cardinality.ensures c.requires.1 c.requires.0

pub returns : goal.returns
returns c = count_is c.args.words.now _ _ c.exact_cardinality.result c.exact_cardinality.ensures c.requires.1 c.requires.0 c.unwrap.ensures
