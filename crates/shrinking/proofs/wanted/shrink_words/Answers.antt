use Rattle.shrinking.proofs.wanted.shrink_words.Goals as goal

pub returns-in-Nodes : goal.returns-in-Nodes
returns-in-Nodes c = rw c.in-Nodes.is c.to_size.ensures

pub returns-in-Cases : goal.returns-in-Cases
returns-in-Cases c = rw c.in-Cases.is c.to_count.ensures
