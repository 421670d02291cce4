use Rattle.writing.proofs.Laws.{wrote_then}
use Rattle.messages.specs.Texts.{pairs_phrase}
use Rattle.messages.proofs.refusal.write_pairs.Goals as goal

pub returns : goal.returns
unfolding pairs_phrase
returns c = wrote_then c.write_number-next.ensures c.write.ensures
