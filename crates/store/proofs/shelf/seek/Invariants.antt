use Rattle.store.specs.Room.{key_of, store_in}
use Rattle.store.specs.Build.{Seek}
use Rattle.store.specs.Store.{node}
use Rattle.store.proofs.shelf.seek.Given as goal

abbrev pub invariant-loop-q : goal.invariant-loop-q
invariant-loop-q l = Seek (key_of l.capacity) (store_in l.base l.room l.count) (node l.var.0 l.low.0 l.high.0) l.q

abbrev pub decreases-loop-q : goal.decreases-loop-q
decreases-loop-q l = l.q
