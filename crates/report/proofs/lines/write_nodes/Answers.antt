use Rattle.diagram.specs.Diagram.{size}
use Rattle.report.specs.Report.{weight_in}
use Rattle.writing.proofs.Laws.{still_part, still_none}
use Rattle.report.proofs.Composing.{lines_begin, lines_next, lines_none}
use Rattle.report.proofs.lines.write_nodes.Goals as goal

pub loop-node-init : goal.loop-node-init
loop-node-init c = lines_begin c.args.words.now (weight_in c.args.weights.now) (size c.args.words.now) c.args.out.now c.args.at

pub loop-node-preserved : goal.loop-node-preserved
loop-node-preserved c = still_part c.loop-node.invariant _ _ (lines_next c.args.words.now (weight_in c.args.weights.now) (size c.args.words.now) c.loop-node.node c.loop-node-test.true) c.write_node-place.ensures

pub returns : goal.returns
returns c = still_none c.loop-node.invariant (lines_none c.args.words.now (weight_in c.args.weights.now) (size c.args.words.now) c.loop-node.node c.loop-node-test.false)
