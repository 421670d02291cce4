use Rattle.store.specs.Store.{node}
use lib.ListN.{length-set}
use mathlib.Core.Path.{refl}
use Rattle.store.proofs.Zones.{entered_is}
use native.Mathlib.Omega.{arith}
use Rattle.store.proofs.shelf.enter.Goals as goal

pub bounds-room-at-2 : goal.bounds-room-at-2
bounds-room-at-2 c = simp length-set (omega (arith, c.requires.0.long, c.requires.1))

pub bounds-room-at-3 : goal.bounds-room-at-3
bounds-room-at-3 c = simp length-set (omega (arith, c.requires.0.long, c.requires.1))

pub bounds-room-head : goal.bounds-room-head
bounds-room-head c = simp length-set (omega (arith, c.requires.0.long, c.requires.2))

pub bounds-room-base : goal.bounds-room-base
bounds-room-base c = simp length-set (omega (arith, c.requires.0.long, c.requires.1))

pub bounds-room-head-2 : goal.bounds-room-head-2
bounds-room-head-2 c = simp length-set (omega (arith, c.requires.0.long, c.requires.2))

pub returns : goal.returns
returns c =
    let a = c.args in
    entered_is a.base a.capacity a.room.now a.count a.bucket (node a.var.0 a.low.0 a.high.0) refl refl refl refl refl refl
