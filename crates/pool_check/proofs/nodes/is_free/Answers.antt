use Rattle.pool_check.proofs.Returns.{used_by_var, used_by_low, free_by_high}
use Rattle.pool_check.proofs.nodes.is_free.Goals as goal

pub returns-then-var-ne0 : goal.returns-then-var-ne0
returns-then-var-ne0 c = used_by_var c.args.table.now c.args.place.0 c.var_of-var.ensures c.if-var-ne0.true

pub returns-then-low-ne0 : goal.returns-then-low-ne0
returns-then-low-ne0 c = used_by_low c.args.table.now c.args.place.0 c.var_of-var.ensures c.if-var-ne0.false c.low_link_of-low.ensures c.if-low-ne0.true

pub returns : goal.returns
returns c = free_by_high c.args.table.now c.args.place.0 c.var_of-var.ensures c.if-var-ne0.false c.low_link_of-low.ensures c.if-low-ne0.false c.high_link_of-high.ensures
