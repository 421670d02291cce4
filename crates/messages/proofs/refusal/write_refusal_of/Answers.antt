use Rattle.writing.proofs.Laws.{wrote_then}
use Rattle.messages.specs.Texts.{refusal_text}
use Rattle.messages.proofs.refusal.write_refusal_of.Goals as goal

pub returns : goal.returns
unfolding refusal_text
returns c = wrote_then (wrote_then (wrote_then (wrote_then (rw c.number.ensures at c.write_refused-begun.ensures) c.write-colon.ensures) c.write_subject-of.ensures) c.write_phrase-said.ensures) c.put.ensures
