use Rattle.writing.proofs.Laws.{wrote_then, wrote_none}
use Rattle.messages.specs.Texts.{refusal_text}
use Rattle.messages.proofs.Differing.{phrase_else, subject_none}
use Rattle.messages.proofs.refusal.write_refusal.Goals as goal

pub returns-in-Some : goal.returns-in-Some
returns-in-Some c = rw (c.in-Some.ensures) at c.write_refusal_of.ensures

pub returns : goal.returns
unfolding refusal_text
returns c =
    let none = c.in_default.ensures in
    rw (subject_none c.args.number none c.args.place, phrase_else c.args.number none)
    (wrote_then (wrote_then (wrote_then (wrote_then c.write_refused-begun.ensures c.write-colon.ensures) (wrote_none _ _)) c.write-said.ensures) c.put.ensures)
