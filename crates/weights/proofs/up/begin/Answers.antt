use mathlib.Core.Path.{refl}
use Rattle.weights.proofs.Ascent.{begin_in, begin_fits, begin_done}
use native.Mathlib.Omega.{arith}
use Rattle.weights.proofs.up.begin.Goals as goal

pub empty-requires : goal.empty-requires
empty-requires c = (omega (arith, c.requires.given.ordered.formed.few, c.requires.given.nodes), c.requires.long)

pub unwrap-all-requires : goal.unwrap-all-requires
unwrap-all-requires c =
    let s = begin_fits c.requires c.empty.ensures c.var_of-above.result.0 c.var_of-above.ensures c.power_of_two.ensures in
    rw (s.1) refl

pub note-requires : goal.note-requires
note-requires c = begin_in c.requires c.empty.ensures

pub returns : goal.returns
returns c = begin_done c.requires c.empty.ensures c.var_of-above.result.0 c.var_of-above.ensures c.power_of_two.ensures c.unwrap-all.ensures c.note.ensures
