use Prim.Native.Nat.{◌-◌}
use mathlib.Core.Path.{refl}
use mathlib.Core.Bool.{false}
use Rattle.diagram.proofs.Tests.{not_both}
use Rattle.diagram.proofs.Parents.{plain_accepted, not_above, not_linked}
use borrow.Author.Tests.{leb-true, leb-false}
use native.Mathlib.Omega.{arith}
use Rattle.diagram_check.proofs.plain.is_plain.Goals as goal

pub returns-then-mark_all_children-nodes : goal.returns-then-mark_all_children-nodes
returns-then-mark_all_children-nodes c = (
  λ e. absurd (not_both false e refl),
  λ e. not_above c.args.words.now c.mark_all_children.result c.args.nodes c.requires.0 c.mark_all_children.ensures.0 c.mark_all_children.ensures.1 c.if-mark_all_children-nodes.true,
)

pub overflow_sub-result : goal.overflow_sub-result
overflow_sub-result c = omega (arith, c.requires.0, c.requires.1.some)

pub returns : goal.returns
returns c = (
  λ e. plain_accepted c.args.words.now c.mark_all_children.new.room c.args.nodes c.mark_all_children.result c.first_lost.result
      c.requires.0 c.requires.1 c.mark_all_children.ensures.0 c.if-mark_all_children-nodes.false c.first_lost.ensures (leb-true (c.args.nodes - 1) c.first_lost.result e),
  λ e. not_linked c.args.words.now c.mark_all_children.new.room c.args.nodes c.mark_all_children.result c.first_lost.result
      c.requires.0 c.requires.1 c.mark_all_children.ensures.0 c.if-mark_all_children-nodes.false c.first_lost.ensures (leb-false (c.args.nodes - 1) c.first_lost.result e),
)
