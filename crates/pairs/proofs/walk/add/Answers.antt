use Rattle.pairs.proofs.Adding.{add_full, add_stands}
use native.Mathlib.Omega.{arith}
use Rattle.pairs.proofs.walk.add.Goals as goal

pub returns-then-count-capacity : goal.returns-then-count-capacity
returns-then-count-capacity c = add_full c.if-count-capacity.true

pub key-requires : goal.key-requires
key-requires c = (c.requires.first, c.requires.second)

pub enter-requires : goal.enter-requires
enter-requires c = (c.requires.linked.space, omega (arith, c.requires.linked.fits, c.if-count-capacity.false), c.requires.low_small, c.requires.high_small)

pub returns : goal.returns
returns c = add_stands c.requires c.if-count-capacity.false c.key.ensures c.enter.ensures
