use Rattle.pool_build.proofs.Gathering.{slot_stays, slot_small, slot_goes}
use native.Mathlib.Omega.{arith}
use Rattle.pool_build.proofs.gather.gather_slot.Goals as goal

pub returns-then-name-eq0 : goal.returns-then-name-eq0
returns-then-name-eq0 c = slot_stays c.requires.0 c.requires.1 c.word-name.ensures c.if-name-eq0.true

pub overflow_add-made : goal.overflow_add-made
overflow_add-made c = omega (arith, slot_small c.requires.0 c.requires.1 c.word-name.ensures c.if-name-eq0.false c.build-made.ensures)

pub returns : goal.returns
returns c = slot_goes c.requires.0 c.requires.1 c.word-name.ensures c.if-name-eq0.false c.build-made.ensures c.put.ensures
