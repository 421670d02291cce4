use Rattle.targets.proofs.Already.{meet_fits, meet_kept, meet_lends, meet_reduced}
use native.Mathlib.Omega.{arith}
use native.Mathlib.Omega.{arith}
use Rattle.targets.proofs.met.meet.Goals as goal

pub copy-requires : goal.copy-requires
copy-requires c = (omega arith, meet_fits c.requires)

pub returns-then-as_is : goal.returns-then-as_is
returns-then-as_is c = rw c.if-as_is.true (meet_kept c.requires c.copy.auto.output c.copy.ensures)

pub answer-made-requires : goal.answer-made-requires
answer-made-requires c = meet_lends c.requires

pub returns : goal.returns
returns c = rw c.if-as_is.false (meet_reduced c.requires c.answer-made.ensures)
