use Rattle.cardinality.proofs.Steps.{terminals_done}
use lib.Ieee.{is_nan}
use native.Mathlib.Omega.{arith}
use Rattle.cardinality.proofs.walk.terminals.Goals as goal

pub note-requires : goal.note-requires
note-requires c = (omega (arith, c.requires.2, c.requires.0.two), rw c.nought.ensures (unfold is_nan in tt))

pub note-requires-2 : goal.note-requires-2
note-requires-2 c = (omega (arith, c.requires.2, c.requires.0.two, c.note.auto.room), rw c.power_of_two.ensures (unfold is_nan in tt))

pub returns : goal.returns
returns c = terminals_done c.args.words.now c.args.heads.now c.args.nodes c.requires.0 c.requires.1 c.requires.2 c.nought.ensures c.power_of_two.ensures c.note.ensures c.note-2.ensures
