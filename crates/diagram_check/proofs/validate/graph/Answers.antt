use Rattle.diagram.proofs.Rows.{broken_near, refuse_order}
use Rattle.diagram.proofs.Parents.{pass_plain, lost_left}
use native.Mathlib.Omega.{arith}
use Rattle.diagram_check.proofs.validate.graph.Goals as goal

pub is_plain-requires : goal.is_plain-requires
is_plain-requires c = (c.requires.0, c.requires.2, omega (arith, c.requires.3))

pub returns-then-is_plain : goal.returns-then-is_plain
returns-then-is_plain c = pass_plain c.args.words.now c.args.nodes c.args.vars c.requires.0 c.requires.1 (c.is_plain.ensures.0 c.if-is_plain.true)

pub overflow_cast-broken : goal.overflow_cast-broken
overflow_cast-broken c =
    omega (arith, broken_near c.args.words.now c.args.nodes c.first_broken-broken.result c.requires.0 c.first_broken-broken.ensures, c.requires.2.few)

pub returns-then-broken-nodes : goal.returns-then-broken-nodes
returns-then-broken-nodes c =
    refuse_order c.args.words.now c.args.nodes c.first_broken-broken.result c.requires.0 c.first_broken-broken.ensures c.if-broken-nodes.true
    _ c.broken_order-reason.ensures

pub returns : goal.returns
returns c =
    lost_left c.args.words.now c.mark.new.room c.args.nodes c.first_broken-broken.result c.first_lost-lost.result c.requires.0 c.requires.2 c.first_broken-broken.ensures c.if-broken-nodes.false c.mark.ensures c.first_lost-lost.ensures (c.is_plain.ensures.1 c.if-is_plain.false)
