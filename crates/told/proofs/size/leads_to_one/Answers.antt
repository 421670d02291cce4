use mathlib.Core.Path.{sym, ◌∙◌}
use Rattle.told.proofs.Somewhere.{one_low, one_either}
use Rattle.told.proofs.size.leads_to_one.Goals as goal

pub returns-then-low-eq1 : goal.returns-then-low-eq1
returns-then-low-eq1 c = sym (one_low c.args.words.now c.args.node.0 (sym c.low_link_of-low.ensures ∙ c.if-low-eq1.true))

pub returns : goal.returns
returns c = one_either c.args.words.now c.args.node.0 (λ e. c.if-low-eq1.false (c.low_link_of-low.ensures ∙ e)) c.high_link_of-high.ensures
