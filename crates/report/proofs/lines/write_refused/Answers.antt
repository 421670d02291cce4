use Rattle.writing.proofs.Laws.{wrote_then}
use Rattle.report.specs.Report.{refused_at}
use Rattle.report.proofs.lines.write_refused.Goals as goal

pub returns : goal.returns
unfolding refused_at
returns c = wrote_then c.write_number-first.ensures c.write_number.ensures
