use borrow.Author.Tests.{eq-eqb, ne_eqb, lt-ltb, le-ltb}
use Rattle.blocks.specs.Block.{row}
use Rattle.node_file.specs.NodeFile.{read_outcome}
use Rattle.node_file.proofs.read.test_length.Goals as goal

pub returns-then-length-eq0 : goal.returns-then-length-eq0
unfolding read_outcome row
returns-then-length-eq0 c = simp (eq-eqb _ _ c.if-length-eq0.true)

pub returns-then-nodes-gt-MAX_NODES : goal.returns-then-nodes-gt-MAX_NODES
unfolding read_outcome row
returns-then-nodes-gt-MAX_NODES c = simp (ne_eqb _ _ c.if-length-eq0.false, lt-ltb _ _ c.if-nodes-gt-MAX_NODES.true)

pub returns-then-rest-ne0 : goal.returns-then-rest-ne0
unfolding read_outcome row
returns-then-rest-ne0 c = simp (ne_eqb _ _ c.if-length-eq0.false, le-ltb _ _ c.if-nodes-gt-MAX_NODES.false, ne_eqb _ _ c.if-rest-ne0.true)

pub returns-then-lent-nodes : goal.returns-then-lent-nodes
unfolding read_outcome row
returns-then-lent-nodes c = simp (ne_eqb _ _ c.if-length-eq0.false, le-ltb _ _ c.if-nodes-gt-MAX_NODES.false, eq-eqb _ _ c.if-rest-ne0.false, lt-ltb _ _ c.if-lent-nodes.true)

pub returns : goal.returns
unfolding read_outcome row
returns c = simp (ne_eqb _ _ c.if-length-eq0.false, le-ltb _ _ c.if-nodes-gt-MAX_NODES.false, eq-eqb _ _ c.if-rest-ne0.false, le-ltb _ _ c.if-lent-nodes.false)
