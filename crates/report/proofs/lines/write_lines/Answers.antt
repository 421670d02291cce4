use Rattle.writing.proofs.Laws.{wrote_then}
use Rattle.report.proofs.lines.write_lines.Goals as goal

pub returns : goal.returns
returns c = wrote_then c.write_head-next.ensures c.write_nodes.ensures
