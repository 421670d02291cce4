use Rattle.report.proofs.Answering.{diagram_refused, diagram_weighed, weights_fit}
use native.Mathlib.Omega.{arith}
use Rattle.report.proofs.weigh.report_in.Goals as goal

pub write_lines-requires : goal.write_lines-requires
write_lines-requires c = omega (arith, weights_fit c.args.words.now _ _ _ _ c.count_and_weights.result c.count_and_weights.ensures c.requires.1 c.requires.0 c.in-Ok.is, c.count_and_weights.auto.output, c.requires.1)

pub returns-in-Ok : goal.returns-in-Ok
returns-in-Ok c = diagram_weighed c.args.words.now _ _ _ _ c.count_and_weights.result c.count_and_weights.ensures c.requires.1 c.requires.0 c.in-Ok.is c.write_lines.ensures

pub returns-in-Err : goal.returns-in-Err
returns-in-Err c = diagram_refused c.args.words.now _ _ _ _ c.count_and_weights.result c.count_and_weights.ensures c.requires.1 c.requires.0 c.in-Err.is c.write_refusal.ensures
