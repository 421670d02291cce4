use Rattle.writing.proofs.Laws.{Still}
use lib.ListN.{drop}
use Rattle.writing.proofs.write.Given as goal

abbrev pub invariant-loop-byte : goal.invariant-loop-byte
invariant-loop-byte l = Still l.text l.initial.out l.at (drop l.byte-index l.text) l.out l.place
