-- What is promised of a file in either form (proofs/Promised.antt).
use Rattle.std.specs.Prelude.{ℕ, ◌*◌, ◌≤◌, ◌<◌, ◌^◌, ◌≡◌, List, ◌++◌, ◌≢◌, length, get_or, take, drop}
use Rattle.blocks.specs.Block.{Bytes, nodes, refused}
use Rattle.block_file.specs.File.{reading}
use Rattle.node_file.specs.NodeFile.{node_file_bytes, node_input_bytes}
use Rattle.forms.specs.Form.{read_as, write_as, file_as, short_as}
use Rattle.forms.specs.declared.Form.{Form}

pub record Forms : Type 0 where
  -- what is written reads back to the same words, into any output that they fit; beyond them the output is as it was
  pub written_reads : (form : Form) (w out : List ℕ) (lent n : ℕ) → ((k : ℕ) → get_or w k 0 < 2 ^ 32) → write_as form w lent ≡ nodes n → length w ≤ length out
      → read_as form (file_as form w) out ≡ reading (nodes n) (w ++ drop (length w) out)
  -- every file read is the one that would be written for its nodes
  pub read_is_file : (form : Form) (s out left : List ℕ) (n : ℕ) → Bytes s → read_as form s out ≡ reading (nodes n) left → s ≡ file_as form (take (3 * n) left)
  -- a buffer for the most nodes is never too short; the bytes of one node more are enough of an input
  pub never_short : (form : Form) (w : List ℕ) (lent place : ℕ) → node_file_bytes ≤ lent → write_as form w lent ≢ refused (short_as form) place
  pub front_enough : (form : Form) (s out : List ℕ) (k : ℕ) → node_input_bytes ≤ k → read_as form (take k s) out ≡ read_as form s out
