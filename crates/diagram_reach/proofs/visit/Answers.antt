use mathlib.Core.Path.{sym, ◌∙◌}
use borrow.Author.Tests.{ltb-true, ltb-false}
use Rattle.diagram.proofs.Marking.{visit_terminal, visit_node, push_most}
use native.Mathlib.Omega.{arith}
use Rattle.diagram_reach.proofs.visit.Goals as goal

pub overflow_add-nodes : goal.overflow_add-nodes
overflow_add-nodes c = omega (arith, c.before.requires.1.few, c.before.requires.2.space)

pub returns-then-is_terminal : goal.returns-then-is_terminal
returns-then-is_terminal c =
    let a = c.before.args in
    visit_terminal a.words.now a.room.now a.nodes a.below c.word.result c.before.requires.0 c.before.requires.2
    c.word.ensures (ltb-true c.word.result 2 (sym c.is_terminal.ensures ∙ c.if-is_terminal.true))

pub push-top-requires : goal.push-top-requires
push-top-requires c = (omega (arith, c.before.requires.1.few, c.before.requires.0), omega (arith, c.before.requires.1.few, c.before.requires.2.space))

pub push-requires : goal.push-requires
push-requires c =
    let a = c.before.args in (
      omega (arith, c.before.requires.1.few, c.before.requires.0),
      omega (arith, c.before.requires.1.few, c.before.requires.2.space, c.push-top.ensures.0, push_most a.room.now a.below c.low_link_of-low.result.0),
    )

pub returns : goal.returns
returns c =
    let a = c.before.args in
    visit_node a.words.now a.room.now a.nodes a.below c.word.result c.low_link_of-low.result.0 c.high_link_of-high.result.0
    c.push-top.new.room c.push-top.result c.push.new.room c.push.result c.before.requires.0 c.before.requires.1 c.before.requires.2
    c.word.ensures (ltb-false c.word.result 2 (sym c.is_terminal.ensures ∙ c.if-is_terminal.false)) c.low_link_of-low.ensures c.high_link_of-high.ensures
    c.push-top.ensures.1 c.push-top.ensures.0 c.push.ensures.1 c.push.ensures.0
