use borrow.Author.Tests.{eq-eqb, ne_eqb}
use Rattle.negation.specs.Negation.{nodes_of}
use Rattle.negation.proofs.nodes_of.Goals as goal

pub returns-then-nodes-eq1 : goal.returns-then-nodes-eq1
unfolding nodes_of
returns-then-nodes-eq1 c = simp (eq-eqb c.args.nodes 1 c.if-nodes-eq1.true)

pub returns-then-nodes-eq2 : goal.returns-then-nodes-eq2
unfolding nodes_of
returns-then-nodes-eq2 c =
    simp (ne_eqb c.args.nodes 1 c.if-nodes-eq1.false, eq-eqb c.args.nodes 2 c.if-nodes-eq2.true)

pub returns : goal.returns
unfolding nodes_of
returns c =
    simp (ne_eqb c.args.nodes 1 c.if-nodes-eq1.false, ne_eqb c.args.nodes 2 c.if-nodes-eq2.false)
