use mathlib.Core.Path.{sym, ◌∙◌, ap}
use native.Mathlib.Omega.{arith}
use Rattle.diagram.specs.Verdict.{said}
use Rattle.diagram.proofs.Accepting.{terminals_accepted, ranges_accepted, formed_of, terminals_refused, ranges_refused, graph_decides}
use Rattle.diagram_check.proofs.validate.contents.Goals as goal

pub returns-in_default : goal.returns-in_default
returns-in_default c =
    let is = ap said c.in_default.is in
    is ∙ terminals_refused c.args.words.now _ _ (sym is ∙ c.terminals-ended.ensures)

pub ranges-ranged-requires : goal.ranges-ranged-requires
ranges-ranged-requires c = c.requires.few

pub returns-in_default-ranged : goal.returns-in_default-ranged
returns-in_default-ranged c =
    let is = ap said c.in_default-ranged.is in
    is ∙ ranges_refused c.args.words.now _ _ (sym (ap said c.in-Ok.is) ∙ c.terminals-ended.ensures) _ _ (sym is ∙ c.ranges-ranged.ensures)

pub graph-requires : goal.graph-requires
graph-requires c =
    let w = c.args.words.now in
    let e = terminals_accepted w _ _ (sym c.terminals-ended.ensures ∙ ap said c.in-Ok.is) in
    let r = (ranges_accepted c.args.words.now _ _ (sym c.ranges-ranged.ensures ∙ ap said c.in-Ok-ranged.is)) in
    (r.nodes, r.count, formed_of w c.args.room.now _ _ c.requires e r, omega (arith, r.nodes, c.requires.fits))

pub returns : goal.returns
returns c =
    graph_decides c.args.words.now _ _ (sym (ap said c.in-Ok.is) ∙ c.terminals-ended.ensures) _ _ (sym (ap said c.in-Ok-ranged.is) ∙ c.ranges-ranged.ensures) c.graph.result c.graph.ensures
