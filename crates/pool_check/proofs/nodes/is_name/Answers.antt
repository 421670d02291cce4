use Rattle.pool_check.proofs.Returns.{name_early, name_past, name_by}
use Rattle.pool_check.proofs.nodes.is_name.Goals as goal

pub returns-then-name-lt-FIRST_NODE_NAME : goal.returns-then-name-lt-FIRST_NODE_NAME
returns-then-name-lt-FIRST_NODE_NAME c = name_early c.args.table.now c.args.name c.if-name-lt-FIRST_NODE_NAME.true

pub returns-then-table-name : goal.returns-then-table-name
returns-then-table-name c = name_past c.args.table.now c.args.name c.if-name-lt-FIRST_NODE_NAME.false c.if-table-name.true

pub returns : goal.returns
returns c = name_by c.args.table.now c.args.name c.if-name-lt-FIRST_NODE_NAME.false c.if-table-name.false c.is_free.ensures
