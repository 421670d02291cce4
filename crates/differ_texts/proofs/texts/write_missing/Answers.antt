use Rattle.writing.proofs.Laws.{wrote_then}
use Rattle.differ_texts.specs.Texts.{missing_text}
use Rattle.differ_texts.proofs.texts.write_missing.Goals as goal

pub returns : goal.returns
unfolding missing_text
returns c = wrote_then c.write-next.ensures c.write.ensures
