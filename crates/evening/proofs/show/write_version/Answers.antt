use Rattle.writing.proofs.Laws.{wrote_then}
use Rattle.evening.specs.Storing.{version_text}
use Rattle.evening.proofs.show.write_version.Goals as goal

pub returns : goal.returns
unfolding version_text
returns c = wrote_then c.write_number-next.ensures c.put.ensures
