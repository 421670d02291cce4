use Rattle.weights.proofs.Ascent.{passes_done}
use native.Mathlib.Omega.{arith}
use Rattle.weights.proofs.weigh.weigh_counted.Goals as goal

pub pass_all-requires : goal.pass_all-requires
pass_all-requires c = c.requires

pub note-requires : goal.note-requires
note-requires c = omega (arith, c.pass_all.ensures.long, c.requires.counted.given.nodes, c.requires.counted.given.two)

pub returns : goal.returns
returns c = passes_done c.requires.counted.given c.requires.variables c.pass_all.ensures (c.note.ensures 0 c.zero.ensures)
