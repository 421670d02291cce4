use Rattle.writing.proofs.Laws.{wrote_then}
use Rattle.report.proofs.lines.write_count.Goals as goal

pub returns : goal.returns
returns c = wrote_then c.write-next.ensures c.write_hexadecimal.ensures
