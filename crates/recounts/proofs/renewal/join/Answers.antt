use Rattle.recounts.proofs.Passes.{join_few, join_asks, join_done}
use native.Mathlib.Omega.{arith}
use Rattle.recounts.proofs.renewal.join.Goals as goal

pub mark-requires : goal.mark-requires
mark-requires c = omega arith

pub overflow_mul-nodes : goal.overflow_mul-nodes
overflow_mul-nodes c = omega (arith, join_few c.requires)

pub note_sum-requires : goal.note_sum-requires
note_sum-requires c = join_asks c.requires

pub returns : goal.returns
returns c = join_done c.requires c.mark.ensures c.note_sum.ensures
