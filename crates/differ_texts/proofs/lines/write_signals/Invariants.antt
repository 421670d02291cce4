use lib.ListN.{drop}
use Rattle.writing.proofs.Laws.{Still}
use Rattle.differ_texts.specs.Texts.{signals}
use Rattle.differ_texts.proofs.lines.write_signals.Given as goal

abbrev pub invariant-loop-i : goal.invariant-loop-i
invariant-loop-i l = Still (signals 0 l.row) l.initial.out l.at (signals l.i (drop l.i l.row)) l.out l.place
