use Prim.Native.Nat.{◌-◌}
use Rattle.diagram.specs.Diagram.{size}
use Rattle.report.specs.Report.{lines, weight_in}
use Rattle.writing.proofs.Laws.{Still}
use Rattle.report.proofs.lines.write_nodes.Given as goal

abbrev pub invariant-loop-node : goal.invariant-loop-node
invariant-loop-node l = Still (lines l.words (weight_in l.weights) 0 (size l.words)) l.initial.out l.at (lines l.words (weight_in l.weights) l.node (size l.words - l.node)) l.out l.place
