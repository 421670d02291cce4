use Rattle.store.proofs.Zones.{started_is}
use Rattle.store.proofs.Joining.{starts}
use native.Mathlib.Omega.{arith}
use Rattle.store.proofs.shelf.start.Goals as goal

pub overflow_add-base : goal.overflow_add-base
overflow_add-base c = omega (arith, c.requires.space.near)

pub overflow_add-base-2 : goal.overflow_add-base-2
overflow_add-base-2 c = omega (arith, c.requires.space.near)

pub overflow_add-base-3 : goal.overflow_add-base-3
overflow_add-base-3 c = omega (arith, c.requires.space.near)

pub overflow_add-base-4 : goal.overflow_add-base-4
overflow_add-base-4 c = omega (arith, c.requires.space.near)

pub overflow_add-base-5 : goal.overflow_add-base-5
overflow_add-base-5 c = omega (arith, c.requires.space.near)

pub returns : goal.returns
returns c =
    let a = c.args in
    starts c.requires (started_is a.base a.room.now a.vars c.put.ensures c.put-2.ensures c.put-3.ensures c.put-4.ensures c.put-5.ensures c.put-6.ensures)
