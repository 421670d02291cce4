use Rattle.block_file.proofs.Storing.{Narrow}
use Rattle.block_file.proofs.write.first_wide.Given as goal

abbrev pub invariant-loop-p : goal.invariant-loop-p
invariant-loop-p l = Narrow l.words l.p
