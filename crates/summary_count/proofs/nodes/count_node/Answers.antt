use Rattle.summary_count.proofs.Places.{free_stays, used_counts}
use mathlib.Core.Path.{◌∙◌, sym}
use Rattle.summary_count.proofs.nodes.count_node.Goals as goal

pub returns-then-is_free : goal.returns-then-is_free
returns-then-is_free c = free_stays _ _ _ (sym c.is_free.ensures ∙ c.if-is_free.true)

pub returns : goal.returns
returns c = used_counts c.args.table.now c.args.node.0 c.args.summary.now c.var_of.result.0 c.word.result c.var_of.ensures c.word.ensures (sym c.is_free.ensures ∙ c.if-is_free.false) c.put.ensures
