use Rattle.writing.proofs.Laws.{wrote_then}
use native.Mathlib.Omega.{arith}
use Rattle.shrinking.proofs.summary.write_middle.Goals as goal

pub count_of-before-requires : goal.count_of-before-requires
count_of-before-requires c = (c.requires.0, c.requires.2)

pub count_of-after-requires : goal.count_of-after-requires
count_of-after-requires c = (c.requires.1, omega (arith, c.requires.2, c.count_of-before.auto.room))

pub returns : goal.returns
returns c = wrote_then (rw (c.count_of-before.ensures, c.count_of-after.ensures) at c.write_counts-next.ensures) (rw (c.count_of-before.ensures, c.count_of-after.ensures) at c.write_change.ensures)
