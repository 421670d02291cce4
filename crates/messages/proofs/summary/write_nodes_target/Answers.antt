use Rattle.writing.proofs.Laws.{wrote_then}
use Rattle.messages.specs.Texts.{target_text}
use Rattle.messages.proofs.summary.write_nodes_target.Goals as goal

pub returns : goal.returns
unfolding target_text
returns c = wrote_then c.write_number-next.ensures c.write.ensures
