use Rattle.writing.proofs.Laws.{still_begins, still_part, still_none}
use Rattle.differ_texts.specs.Texts.{signals}
use Rattle.differ_texts.proofs.Rows.{signals_next, signals_none}
use Rattle.differ_texts.proofs.lines.write_signals.Goals as goal

pub loop-i-init : goal.loop-i-init
loop-i-init c = still_begins (signals 0 c.args.row.now) c.args.out.now c.args.at

pub loop-i-preserved : goal.loop-i-preserved
loop-i-preserved c = still_part c.loop-i.invariant _ _ (signals_next c.args.row.now _ c.loop-i-test.true) c.write_signal-place.ensures

pub returns : goal.returns
returns c = still_none c.loop-i.invariant (signals_none c.args.row.now _ c.loop-i-test.false)
