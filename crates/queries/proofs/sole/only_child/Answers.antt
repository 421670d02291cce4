use mathlib.Core.Path.{sym, ◌∙◌}
use Rattle.queries.proofs.SoleWalk.{only_low, only_high, only_none}
use Rattle.queries.proofs.sole.only_child.Goals as goal

pub returns-then-low-eq0 : goal.returns-then-low-eq0
returns-then-low-eq0 c =
    c.high_link_of-high.ensures ∙ sym (only_low c.args.words.now c.args.node.0 (sym c.low_link_of-low.ensures ∙ c.if-low-eq0.true))

pub returns-then-high-eq0 : goal.returns-then-high-eq0
returns-then-high-eq0 c =
    c.low_link_of-low.ensures ∙ sym (only_high c.args.words.now c.args.node.0 (λ e. c.if-low-eq0.false (c.low_link_of-low.ensures ∙ e)) (sym c.high_link_of-high.ensures ∙ c.if-high-eq0.true))

pub returns : goal.returns
returns c =
    sym (only_none c.args.words.now c.args.node.0 (λ e. c.if-low-eq0.false (c.low_link_of-low.ensures ∙ e)) (λ e. c.if-high-eq0.false (c.high_link_of-high.ensures ∙ e)))
