use Rattle.writing.proofs.Laws.{wrote_then}
use Rattle.messages.specs.Texts.{more_than}
use Rattle.messages.proofs.refusal.write_limit.Goals as goal

pub returns : goal.returns
unfolding more_than
returns c = wrote_then c.write_number-next.ensures c.write.ensures
