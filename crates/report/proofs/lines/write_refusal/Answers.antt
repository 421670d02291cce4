use mathlib.Core.Path.{sym}
use Rattle.writing.proofs.Laws.{wrote_then}
use Rattle.report.proofs.lines.write_refusal.Goals as goal

pub returns : goal.returns
returns c = rw (sym c.number.ensures) (wrote_then c.write_refused-next.ensures c.put.ensures)
