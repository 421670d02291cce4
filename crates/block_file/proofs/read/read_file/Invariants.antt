use Rattle.block_file.proofs.Steps.{Onward}
use Rattle.block_file.proofs.read.read_file.Given as goal

abbrev pub invariant-loop-number : goal.invariant-loop-number
invariant-loop-number l = Onward l.bytes l.initial.output l.number l.stated l.output
