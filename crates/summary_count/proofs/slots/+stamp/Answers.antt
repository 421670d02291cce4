use mathlib.Core.Path.{sym, ◌∙◌}
use borrow.Author.Tests.{ltb-true, ltb-false}
use Rattle.summary_count.proofs.Stamps.{walk_end, walk_done}
use Rattle.summary_count.proofs.slots.+stamp.Goals as goal

pub returns-then-is_terminal : goal.returns-then-is_terminal
returns-then-is_terminal t c = walk_end c.requires (ltb-true c.args.node.0 2 (sym c.is_terminal.ensures ∙ c.if-is_terminal.true))

pub returns : goal.returns
returns t c = walk_done c.requires (ltb-false c.args.node.0 2 (sym c.is_terminal.ensures ∙ c.if-is_terminal.false)) c.low_link_of.ensures c.stamp.ensures c.high_link_of.ensures c.stamp-2.ensures c.var_of-var.ensures c.to_index-mark.ensures c.put.ensures c.put-2.ensures
