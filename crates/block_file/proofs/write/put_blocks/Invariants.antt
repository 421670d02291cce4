use Prim.Native.Nat.{◌-◌}
use Rattle.writing.proofs.Laws.{Still}
use Rattle.diagram.specs.Diagram.{size}
use Rattle.block_file.specs.File.{file_of, blocks_from, block_count}
use Rattle.block_file.proofs.write.put_blocks.Given as goal

abbrev pub invariant-loop-number : goal.invariant-loop-number
invariant-loop-number l = Still (file_of l.words) l.initial.file 0 (blocks_from l.words l.number (block_count (size l.words) - l.number)) l.file l.place
