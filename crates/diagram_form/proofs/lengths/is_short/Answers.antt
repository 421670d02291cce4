use Rattle.diagram.proofs.Rows.{short_nothing, short_diagram, short_weights, short_per_variable}
use Rattle.diagram_form.proofs.lengths.is_short.Goals as goal

pub returns-in-Nothing : goal.returns-in-Nothing
returns-in-Nothing c = short_nothing c.args.words.now c.args.output c.in-Nothing.is

pub returns-in-Diagram : goal.returns-in-Diagram
returns-in-Diagram c =
    short_diagram c.args.words.now c.args.output c.in-Diagram.lent c.most.result c.in-Diagram.is c.most.ensures

pub returns-in-Weights : goal.returns-in-Weights
returns-in-Weights c =
    short_weights c.args.words.now c.args.output c.in-Weights.lent c.in-Weights.is

pub returns-in-PerVariable : goal.returns-in-PerVariable
returns-in-PerVariable c =
    short_per_variable c.args.words.now c.args.output c.in-PerVariable.lent c.in-PerVariable.is
