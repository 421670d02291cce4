use mathlib.Core.Bool.{not}
use mathlib.Core.Path.{ap}
use Rattle.pool_check.proofs.Returns.{ended_not_zero, ended_not_one, ended_by}
use Rattle.pool_check.proofs.check.is_ended.Goals as goal

pub returns-then-not-is_terminal_node : goal.returns-then-not-is_terminal_node
returns-then-not-is_terminal_node c = ended_not_zero c.args.table.now c.is_terminal_node.ensures (ap not c.if-not-is_terminal_node.true)

pub returns-then-not-is_terminal_node-2 : goal.returns-then-not-is_terminal_node-2
returns-then-not-is_terminal_node-2 c = ended_not_one c.args.table.now c.is_terminal_node.ensures (ap not c.if-not-is_terminal_node.false) c.is_terminal_node-2.ensures (ap not c.if-not-is_terminal_node-2.true)

pub returns : goal.returns
returns c = ended_by c.args.table.now c.is_terminal_node.ensures (ap not c.if-not-is_terminal_node.false) c.is_terminal_node-2.ensures (ap not c.if-not-is_terminal_node-2.false) c.word.ensures
