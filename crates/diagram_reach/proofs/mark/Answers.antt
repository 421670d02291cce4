use mathlib.Core.Path.{◌≡◌, refl, ◌∙◌}
use Rattle.diagram.specs.Diagram.{root}
use Rattle.diagram.proofs.Marking.{search_first, search_on, marks_right}
use native.Mathlib.Omega.{arith}
use Rattle.diagram_reach.proofs.mark.Goals as goal

pub overflow_sub-nodes : goal.overflow_sub-nodes
overflow_sub-nodes c = omega (arith, c.requires.0, c.requires.1.some)

pub overflow_cast-nodes : goal.overflow_cast-nodes
overflow_cast-nodes c = omega (arith, c.requires.0, c.requires.1.few)

pub push-top-requires : goal.push-top-requires
push-top-requires c = (omega (arith, c.requires.0, c.requires.1.few), omega arith)

pub loop-top-init : goal.loop-top-init
loop-top-init c =
    let a = c.args in
    let s = search_first a.words.now a.room.now c.clear.new.room c.push-top.new.room a.nodes c.push-top.result
    c.requires.0 c.requires.1 c.requires.2 c.clear.ensures c.push-top.ensures.1 c.push-top.ensures.0
    in
    (c.requires.0, c.requires.1, s.0, s.1, refl)

pub visit-top-requires : goal.visit-top-requires
visit-top-requires c =
    let inv = c.loop-top.invariant in
    (inv.0, inv.1, search_on c.args.words.now c.loop-top.room c.loop-top.top c.loop-top-test.true inv.2)

pub loop-top-smaller : goal.loop-top-smaller
loop-top-smaller c = omega (arith, c.visit-top.ensures.1.left)

pub loop-top-preserved : goal.loop-top-preserved
loop-top-preserved c =
    let inv = c.loop-top.invariant in
    let v = c.visit-top.ensures in (
      inv.0,
      inv.1,
      v.0,
      v.1.grown (root c.args.words.now) (omega (arith, inv.1.some)) inv.3,
      c.visit-top.auto.room ∙ inv.4,
    )

pub shape_of-room : goal.shape_of-room
shape_of-room c = c.loop-top.invariant.4 ∙ (c.push-top.auto.room ∙ c.clear.auto.room)

pub returns : goal.returns
returns c =
    let inv = c.loop-top.invariant in
    let e : c.loop-top.top ≡ 0 = omega (arith, c.loop-top-test.false) in
    marks_right c.args.words.now c.loop-top.room inv.1 (rw e at inv.2) inv.3
