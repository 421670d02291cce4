use Rattle.writing.proofs.Laws.{wrote_then}
use Rattle.messages.proofs.summary.write_line.Goals as goal

pub returns : goal.returns
returns c = wrote_then c.write_twice-next.ensures c.put.ensures
