-- What document 01 promises of block files, as one statement (proofs/Promised.antt).
use Rattle.std.specs.Prelude.{ℕ, ◌*◌, ◌≤◌, ◌<◌, ◌^◌, ◌≡◌, List, ◌++◌, length, get_or, take, drop}
use Rattle.blocks.specs.Block.{Bytes, block_bytes, max_stored, nodes}
use Rattle.block_file.specs.File.{block_count, file_of, reading, read_file, write_outcome, written}

pub record Files : Type 0 where
  -- what is written reads back to the same nodes, into any output that they fit; beyond them the output is as it was
  pub written_reads : (w out : List ℕ) (lent n : ℕ) → ((k : ℕ) → get_or w k 0 < 2 ^ 32) → write_outcome w lent ≡ nodes n → length w ≤ length out
      → read_file (file_of w) out ≡ reading (nodes n) (w ++ drop (length w) out)
  -- every file read is the one that would be written for its nodes, and the writer takes them wherever the file fits
  pub read_is_file : (s out left : List ℕ) (n : ℕ) → Bytes s → read_file s out ≡ reading (nodes n) left
      → (s ≡ file_of (take (3 * n) left)) × (drop (3 * n) left ≡ drop (3 * n) out)
  pub read_then_written : (s out left file : List ℕ) (n : ℕ) → Bytes s → read_file s out ≡ reading (nodes n) left → length s ≤ length file
      → (write_outcome (take (3 * n) left) (length file) ≡ nodes n) × (written (take (3 * n) left) file (nodes n) ≡ s ++ drop (length s) file)
  -- one byte more than three blocks have is enough: what follows it is not looked at
  pub front_enough : (s out : List ℕ) (k : ℕ) → block_bytes * block_count max_stored < k → read_file (take k s) out ≡ read_file s out
