use Rattle.diagram.proofs.Rows.{ranges_few, ranges_fault, ranges_clear}
use Rattle.diagram_form.proofs.ranges.ranges.Goals as goal

pub returns-then-nodes-le2 : goal.returns-then-nodes-le2
returns-then-nodes-le2 c = ranges_few c.args.words.now c.word-vars.result c.word-vars.ensures c.if-nodes-le2.true

pub returns-in-Some : goal.returns-in-Some
returns-in-Some c = ranges_fault c.args.words.now c.word-vars.result c.word-vars.ensures c.if-nodes-le2.false c.in-Some.fault c.in-Some.ensures

pub returns : goal.returns
returns c = ranges_clear c.args.words.now c.word-vars.result c.word-vars.ensures c.if-nodes-le2.false c.in_default.ensures
