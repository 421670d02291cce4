use mathlib.Core.Path.{◌∙◌}
use Rattle.diagram.proofs.Words.{zeros_whole}
use Rattle.exact_counts.proofs.Answers.{alone_asks}
use Rattle.exact_counts.proofs.count_all.Goals as goal

pub total-count-requires : goal.total-count-requires
total-count-requires c = alone_asks c.requires.0 c.requires.1 c.requires.2 c.requires.3

pub returns : goal.returns
returns c = (c.total-count.ensures.total, c.clear.ensures ∙ zeros_whole c.total-count.new.room c.args.room.now c.total-count.auto.room)
