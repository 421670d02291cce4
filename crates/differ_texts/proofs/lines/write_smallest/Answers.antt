use Rattle.writing.proofs.Laws.{wrote_then}
use Rattle.differ_texts.specs.Texts.{smallest_text}
use Rattle.differ_texts.proofs.lines.write_smallest.Goals as goal

pub returns : goal.returns
unfolding smallest_text
returns c = wrote_then (wrote_then (wrote_then c.write-named.ensures c.write_row-shown.ensures) c.put-next.ensures) c.write_on.ensures
