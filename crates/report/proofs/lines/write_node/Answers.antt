use Rattle.report.proofs.Composing.{wrote_line}
use Rattle.report.proofs.lines.write_node.Goals as goal

pub returns : goal.returns
returns c = wrote_line c.args.words.now c.weight_of.result.words c.args.node c.word.ensures c.weight_of.ensures c.write_number-named.ensures c.write_number-tested.ensures c.write_count-weighed.ensures c.put.ensures
