use mathlib.Core.Bool.{not}
use mathlib.Core.Path.{ap}
use Rattle.pool_check.proofs.Returns.{names_hit, names_end}
use Rattle.pool_check.proofs.nodes.are_names.Goals as goal

pub returns-then-not-is_name : goal.returns-then-not-is_name
returns-then-not-is_name c = names_hit c.args.table.now c.args.slots.now c.loop-k.k c.loop-k-test.true c.word.ensures c.is_name.ensures (ap not c.if-not-is_name.true)

pub returns : goal.returns
returns c = names_end c.args.table.now c.args.slots.now c.loop-k.k c.loop-k.invariant.0 c.loop-k-test.false
