use lib.ListN.{drop}
use Prim.Native.Nat.{◌*◌}
use Rattle.blocks.specs.Block.{nodes_bytes}
use Rattle.writing.proofs.Laws.{Still}
use Rattle.blocks.proofs.nodes.put_nodes.Given as goal

abbrev pub invariant-loop-i : goal.invariant-loop-i
invariant-loop-i l = Still (nodes_bytes l.words) l.initial.out l.at (nodes_bytes (drop (3 * l.i) l.words)) l.out l.place
