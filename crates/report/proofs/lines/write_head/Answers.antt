use Rattle.naturals.specs.Natural.{value}
use Rattle.report.proofs.Composing.{wrote_head}
use Rattle.report.proofs.lines.write_head.Goals as goal

pub returns : goal.returns
returns c = wrote_head c.args.words.now (value c.args.count.words) c.word.ensures c.write_number-vars.ensures c.write_number-nodes.ensures c.write_count-counted.ensures c.put.ensures
