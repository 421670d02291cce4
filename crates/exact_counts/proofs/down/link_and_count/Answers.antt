use Rattle.levels.proofs.Chaining.{heads_all}
use native.Mathlib.Omega.{arith}
use Rattle.exact_counts.proofs.down.link_and_count.Goals as goal

pub link-requires : goal.link-requires
link-requires c = (c.requires.0, c.requires.2, omega (arith, c.requires.3))

pub count_down-requires : goal.count_down-requires
count_down-requires c = (c.requires.0, c.link.ensures, omega (arith, c.requires.3, c.link.auto.room), c.requires.1)

pub returns : goal.returns
returns c = (heads_all c.requires.0 c.link.ensures, c.count_down.ensures)
