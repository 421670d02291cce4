use Rattle.messages.proofs.summary.write_target.Goals as goal

pub returns-in-Nodes : goal.returns-in-Nodes
returns-in-Nodes c = rw c.in-Nodes.is c.write_nodes_target.ensures

pub returns-in-Cases : goal.returns-in-Cases
returns-in-Cases c = rw c.in-Cases.is c.write_cases_target.ensures
