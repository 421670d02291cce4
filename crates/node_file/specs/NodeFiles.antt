-- What is promised of node files, as one statement (proofs/Promised.antt).
use Rattle.std.specs.Prelude.{ℕ, ◌*◌, ◌≤◌, ◌<◌, ◌^◌, ◌≡◌, List, ◌++◌, length, get_or, take, drop}
use Rattle.blocks.specs.Block.{Bytes, nodes, nodes_bytes}
use Rattle.block_file.specs.File.{reading}
use Rattle.node_file.specs.NodeFile.{node_input_bytes, read_nodes, write_outcome, written}

pub record NodeFiles : Type 0 where
  -- what is written reads back to the same words, into any output that they fit; beyond them the output is as it was
  pub written_reads : (w out : List ℕ) (lent n : ℕ) → ((k : ℕ) → get_or w k 0 < 2 ^ 32) → write_outcome w lent ≡ nodes n → length w ≤ length out
      → read_nodes (nodes_bytes w) out ≡ reading (nodes n) (w ++ drop (length w) out)
  -- every file read is the one that would be written for its nodes, and the writer takes them wherever the file fits
  pub read_is_file : (s out left : List ℕ) (n : ℕ) → Bytes s → read_nodes s out ≡ reading (nodes n) left
      → (s ≡ nodes_bytes (take (3 * n) left)) × (drop (3 * n) left ≡ drop (3 * n) out)
  pub read_then_written : (s out left file : List ℕ) (n : ℕ) → Bytes s → read_nodes s out ≡ reading (nodes n) left → length s ≤ length file
      → (write_outcome (take (3 * n) left) (length file) ≡ nodes n) × (written (take (3 * n) left) file (nodes n) ≡ s ++ drop (length s) file)
  -- the bytes of one node more than there may be are enough: what follows them is not looked at
  pub front_enough : (s out : List ℕ) (k : ℕ) → node_input_bytes ≤ k → read_nodes (take k s) out ≡ read_nodes s out
