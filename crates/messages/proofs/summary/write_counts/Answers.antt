use Rattle.writing.proofs.Laws.{wrote_then}
use Rattle.messages.specs.Texts.{counts_text}
use Rattle.messages.proofs.summary.write_counts.Goals as goal

pub returns : goal.returns
unfolding counts_text
returns c = wrote_then (wrote_then c.write_twice-first.ensures c.write_twice-second.ensures) c.put.ensures
