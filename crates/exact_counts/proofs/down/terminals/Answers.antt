use Rattle.exact_counts.proofs.Descent.{worths_start}
use native.Mathlib.Omega.{arith}
use Rattle.exact_counts.proofs.down.terminals.Goals as goal

pub note-requires : goal.note-requires
note-requires c = omega (arith, c.requires.2, c.requires.0.two)

pub note-requires-2 : goal.note-requires-2
note-requires-2 c = omega (arith, c.requires.2, c.requires.0.two, c.note.auto.table)

pub returns : goal.returns
returns c = worths_start c.args.valuations c.args.words.now c.args.heads.now c.args.nodes c.requires.0 c.requires.1 c.requires.2 (c.note.ensures 0 c.zero.ensures) (c.note-2.ensures 1 c.from.ensures)
