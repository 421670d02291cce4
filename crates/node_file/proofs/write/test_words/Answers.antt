use borrow.Author.Tests.{eq-eqb, ne_eqb, lt-ltb, le-ltb}
use Rattle.blocks.specs.Block.{row}
use Rattle.node_file.specs.NodeFile.{write_outcome}
use Rattle.node_file.proofs.write.test_words.Goals as goal

pub returns-then-words-eq0 : goal.returns-then-words-eq0
unfolding write_outcome row
returns-then-words-eq0 c = simp (eq-eqb _ _ c.if-words-eq0.true)

pub returns-then-words-ne0 : goal.returns-then-words-ne0
unfolding write_outcome row
returns-then-words-ne0 c = simp (ne_eqb _ _ c.if-words-eq0.false, ne_eqb _ _ c.if-words-ne0.true)

pub returns-then-nodes-gt-MAX_NODES : goal.returns-then-nodes-gt-MAX_NODES
unfolding write_outcome row
returns-then-nodes-gt-MAX_NODES c = simp (ne_eqb _ _ c.if-words-eq0.false, eq-eqb _ _ c.if-words-ne0.false, lt-ltb _ _ c.if-nodes-gt-MAX_NODES.true)

pub returns-then-lent-nodes : goal.returns-then-lent-nodes
unfolding write_outcome row
returns-then-lent-nodes c = simp (ne_eqb _ _ c.if-words-eq0.false, eq-eqb _ _ c.if-words-ne0.false, le-ltb _ _ c.if-nodes-gt-MAX_NODES.false, lt-ltb _ _ c.if-lent-nodes.true)

pub returns-then-wide-nodes : goal.returns-then-wide-nodes
unfolding write_outcome row
returns-then-wide-nodes c = rw c.first_wide-wide.ensures (simp (ne_eqb _ _ c.if-words-eq0.false, eq-eqb _ _ c.if-words-ne0.false, le-ltb _ _ c.if-nodes-gt-MAX_NODES.false, le-ltb _ _ c.if-lent-nodes.false, lt-ltb _ _ (rw c.first_wide-wide.ensures at c.if-wide-nodes.true)))

pub returns : goal.returns
unfolding write_outcome row
returns c = simp (ne_eqb _ _ c.if-words-eq0.false, eq-eqb _ _ c.if-words-ne0.false, le-ltb _ _ c.if-nodes-gt-MAX_NODES.false, le-ltb _ _ c.if-lent-nodes.false, le-ltb _ _ (rw c.first_wide-wide.ensures at c.if-wide-nodes.false))
