use mathlib.Core.Path.{refl}
use Rattle.pool_calls.proofs.Calling.{place_full, place_done}
use Rattle.pool_calls.proofs.add.add_placed.Goals as goal

pub returns-then-places-count : goal.returns-then-places-count
returns-then-places-count c = place_full _ _ _ _ c.requires c.place-count.ensures c.if-places-count.true refl

pub returns : goal.returns
returns c = place_done _ _ _ _ c.requires c.place-count.ensures c.if-places-count.false c.word.ensures refl
