use Rattle.writing.proofs.Laws.{wrote_then}
use Rattle.differ_texts.specs.Texts.{counts_text}
use Rattle.differ_texts.proofs.lines.write_counts.Goals as goal

pub returns : goal.returns
unfolding counts_text
returns c = wrote_then (wrote_then (wrote_then (wrote_then c.write_number-named.ensures c.put-next.ensures) c.write_line-old.ensures) c.write_line-new.ensures) c.write_line.ensures
