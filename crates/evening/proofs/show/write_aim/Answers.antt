use Rattle.writing.proofs.Laws.{wrote_then}
use Rattle.evening.specs.Storing.{aim_text}
use Rattle.evening.proofs.show.write_aim.Goals as goal

pub returns-in-Nodes : goal.returns-in-Nodes
unfolding aim_text
returns-in-Nodes c = rw c.in-Nodes.is c.write_number.ensures

pub returns-in-Cases : goal.returns-in-Cases
unfolding aim_text
returns-in-Cases c = rw c.in-Cases.is (wrote_then c.write-named.ensures c.write_natural.ensures)
