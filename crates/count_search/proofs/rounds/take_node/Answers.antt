use Rattle.count_search.proofs.Walks.{took}
use native.Mathlib.Omega.{arith}
use Rattle.count_search.proofs.rounds.take_node.Goals as goal

pub mark-requires : goal.mark-requires
mark-requires c = c.requires.few

pub change-requires : goal.change-requires
change-requires c = (c.requires.few, omega (arith, c.requires.inside, c.requires.long, c.mark.auto.room, c.word.ensures))

pub overflow_mul-nodes : goal.overflow_mul-nodes
overflow_mul-nodes c = omega (arith, c.requires.few)

pub count_at-requires : goal.count_at-requires
count_at-requires c = omega (arith, c.requires.inside, c.requires.long, c.mark.auto.room, c.change.auto.room, c.word.ensures)

pub returns : goal.returns
returns c = took c.args.changed.now c.args.room.now c.args.nodes c.args.taken c.word.ensures c.mark.ensures c.zero.ensures c.change.ensures c.count_at.ensures
