use Rattle.pairs.proofs.Beginning.{walk_begins, walk_full, walk_ends}
use native.Mathlib.Omega.{arith}
use Rattle.pairs.proofs.walk.walk.Goals as goal

pub meet-met-requires : goal.meet-met-requires
meet-met-requires c = walk_begins c.requires.0 c.requires.1 c.clear.ensures c.clear.auto.room

pub returns-then-capacity-met : goal.returns-then-capacity-met
returns-then-capacity-met c = walk_full c.requires.0 c.requires.1 c.clear.ensures c.meet-met.ensures c.if-capacity-met.true

pub returns : goal.returns
returns c = walk_ends c.requires.0 c.requires.1 c.clear.ensures c.meet-met.ensures (omega (arith, c.if-capacity-met.false))
