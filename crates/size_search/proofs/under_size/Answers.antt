use Rattle.trials.proofs.Early.{searching_few, falsely}
use Rattle.size_search.proofs.Early.{size_none}
use native.Mathlib.Omega.{arith}
use Rattle.size_search.proofs.under_size.Goals as goal

pub constantly-requires : goal.constantly-requires
constantly-requires c = searching_few c.requires.0

pub returns-then-target-le2 : goal.returns-then-target-le2
returns-then-target-le2 c = falsely c.requires.0 c.constantly.ensures (size_none c.requires.0 (omega (arith, c.if-target-le2.true)) c.requires.1)

pub searched-requires : goal.searched-requires
searched-requires c = (c.requires.0, omega (arith, c.if-target-le2.false), c.requires.1)

pub returns : goal.returns
returns c = c.searched.ensures
