use Rattle.writing.proofs.Laws.{wrote_then}
use Rattle.messages.specs.Texts.{settings_refusal_text}
use Rattle.messages.proofs.refusal.write_settings_refusal.Goals as goal

pub returns : goal.returns
unfolding settings_refusal_text
returns c = wrote_then (wrote_then (wrote_then (wrote_then (rw c.number.ensures at c.write_refused-begun.ensures) c.write-colon.ensures) c.write_subject-of.ensures) c.write_settings_phrase-said.ensures) c.put.ensures
