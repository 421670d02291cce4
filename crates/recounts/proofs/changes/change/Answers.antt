use Rattle.recounts.proofs.Passes.{change_done}
use native.Mathlib.Omega.{arith}
use Rattle.recounts.proofs.changes.change.Goals as goal

pub mark-requires : goal.mark-requires
mark-requires c = omega arith

pub overflow_mul-nodes : goal.overflow_mul-nodes
overflow_mul-nodes c = omega (arith, c.requires.0)

pub note-requires : goal.note-requires
note-requires c = c.requires.1

pub returns : goal.returns
returns c = (change_done c.args.changed.now c.args.node.0 c.mark.ensures, c.note.ensures)
