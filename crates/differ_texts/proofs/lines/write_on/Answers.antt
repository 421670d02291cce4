use Rattle.writing.proofs.Laws.{wrote_then}
use Rattle.differ_texts.specs.Texts.{on_text}
use Rattle.differ_texts.proofs.lines.write_on.Goals as goal

pub returns : goal.returns
unfolding on_text
returns c = wrote_then (wrote_then c.write-named.ensures c.write_list-listed.ensures) c.put.ensures
