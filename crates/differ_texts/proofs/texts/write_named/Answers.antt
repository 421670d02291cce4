use Rattle.writing.proofs.Laws.{wrote_then}
use Rattle.differ_texts.specs.Texts.{named_text}
use Rattle.differ_texts.proofs.texts.write_named.Goals as goal

pub returns : goal.returns
unfolding named_text
returns c = wrote_then (wrote_then c.write-named.ensures c.write-colon.ensures) c.write_refusal_of.ensures
