use Prim.Native.Nat.{◌+◌, ◌*◌, ◌-◌}
use Rattle.blocks.specs.Block.{nodes_at, place_bytes}
use Rattle.writing.proofs.Laws.{Still}
use Rattle.blocks.proofs.nodes.get_nodes.Given as goal

abbrev pub invariant-loop-i : goal.invariant-loop-i
invariant-loop-i l = Still (nodes_at l.bytes l.first l.count) l.initial.output l.at (nodes_at l.bytes (l.first + place_bytes * l.i) (l.count - l.i)) l.output l.place
