use Rattle.weights.proofs.Both.{both_few, both_counts, both_place, both_one, both_rises, both_done}
use native.Mathlib.Omega.{arith}
use Rattle.weights.proofs.weigh.passes.Goals as goal

pub total-count-requires : goal.total-count-requires
total-count-requires c = both_counts c.requires

pub overflow_mul-nodes : goal.overflow_mul-nodes
overflow_mul-nodes c = omega (arith, both_few c.requires)

pub note-requires : goal.note-requires
note-requires c = both_place c.requires c.total-count.auto.room c.total-count.ensures

pub returns-then-nodes-eq1 : goal.returns-then-nodes-eq1
returns-then-nodes-eq1 c = both_one c.requires c.total-count.auto.room c.total-count.ensures c.if-nodes-eq1.true (c.note.ensures 0 c.zero.ensures)

pub weigh_counted-requires : goal.weigh_counted-requires
weigh_counted-requires c = both_rises c.requires c.total-count.auto.room c.total-count.ensures c.if-nodes-eq1.false

pub returns : goal.returns
returns c = both_done c.requires c.total-count.auto.room c.total-count.ensures c.weigh_counted.ensures
