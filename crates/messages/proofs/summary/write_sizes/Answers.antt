use Rattle.writing.proofs.Laws.{wrote_then}
use Rattle.messages.specs.Texts.{sizes_text}
use Rattle.messages.proofs.summary.write_sizes.Goals as goal

pub returns : goal.returns
unfolding sizes_text
returns c = wrote_then (wrote_then c.write_number-first.ensures c.write_number-second.ensures) c.put.ensures
