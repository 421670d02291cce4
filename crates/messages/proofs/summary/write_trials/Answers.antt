use Rattle.writing.proofs.Laws.{wrote_then}
use Rattle.messages.specs.Texts.{trials_text}
use Rattle.messages.proofs.summary.write_trials.Goals as goal

pub returns : goal.returns
unfolding trials_text
returns c = wrote_then c.write_number-next.ensures c.put.ensures
