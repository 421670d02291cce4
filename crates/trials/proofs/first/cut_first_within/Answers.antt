use Rattle.trials.proofs.Firsts.{trying_unmarkable, trying_markable, trying_cutting, tried_within}
use Rattle.trials.proofs.first.cut_first_within.Goals as goal

pub unmark-requires : goal.unmark-requires
unmark-requires c = trying_unmarkable c.requires.trying

pub mark_first-requires : goal.mark_first-requires
mark_first-requires c = trying_markable c.requires.trying c.unmark.ensures

pub cut-requires : goal.cut-requires
cut-requires c = trying_cutting c.requires.trying c.unmark.ensures c.mark_first.ensures c.requires.two c.requires.within

pub returns : goal.returns
returns c = tried_within c.requires.trying c.unmark.ensures c.mark_first.ensures c.cut.ensures
