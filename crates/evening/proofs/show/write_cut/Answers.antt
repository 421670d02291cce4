use Rattle.writing.proofs.Laws.{wrote_then}
use Rattle.evening.specs.Storing.{cut_text}
use Rattle.evening.proofs.show.write_cut.Goals as goal

pub returns : goal.returns
unfolding cut_text
returns c = wrote_then (wrote_then (wrote_then c.write_direction-directed.ensures c.write_aim-aimed.ensures) c.write_flag-flagged.ensures) c.put.ensures
