use mathlib.Core.Path.{◌≡◌, refl, sym, ◌∙◌}
use Rattle.diagram.proofs.Parents.{linked_begins, linked_on}
use native.Mathlib.Omega.{arith}
use Rattle.diagram_check.proofs.plain.mark_all_children.Goals as goal

pub loop-node-init : goal.loop-node-init
loop-node-init c = (rw c.clear.ensures (linked_begins c.args.words.now c.args.room.now c.args.nodes c.requires.0 c.requires.2), refl, omega arith)

pub overflow_cast-at : goal.overflow_cast-at
overflow_cast-at c = omega (arith, c.requires.0, c.requires.1.few)

pub shape_of-room-then-not-is_above : goal.shape_of-room-then-not-is_above
shape_of-room-then-not-is_above c = c.loop-node.invariant.1 ∙ c.clear.auto.room

pub returns-then-not-is_above : goal.returns-then-not-is_above
returns-then-not-is_above c = (c.loop-node.invariant.0, λ l. sym c.is_above.ensures ∙ c.if-not-is_above.true)

pub loop-node-preserved : goal.loop-node-preserved
loop-node-preserved c = (
  rw c.mark_children.ensures
      (linked_on c.args.words.now c.loop-node.room c.loop-node.node c.requires.1
      (omega (arith, c.requires.0, c.requires.2, c.loop-node.invariant.1, c.clear.auto.room))
      c.loop-node.invariant.0
      (omega (arith, c.requires.0))
      (sym c.is_above.ensures ∙ c.if-not-is_above.false)),
  c.mark_children.auto.room ∙ c.loop-node.invariant.1,
  omega arith,
)

pub shape_of-room : goal.shape_of-room
shape_of-room c = c.loop-node.invariant.1 ∙ c.clear.auto.room

pub returns : goal.returns
returns c =
    let all : c.most.result ≡ c.loop-node.node = omega (arith, c.most.ensures, c.loop-node.invariant.2) in
    (rw all c.loop-node.invariant.0, λ l. absurd (omega (arith, c.requires.0, c.most.ensures)))
