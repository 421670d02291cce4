use Rattle.evening.proofs.words.target_words.Goals as goal

pub returns-in-Nodes : goal.returns-in-Nodes
returns-in-Nodes c = rw c.in-Nodes.is c.words_of_nodes.ensures

pub returns-in-Cases : goal.returns-in-Cases
returns-in-Cases c = rw c.in-Cases.is c.words_of_cases.ensures
