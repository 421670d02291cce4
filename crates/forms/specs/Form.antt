-- A file in one of two forms: blocks (crates/block_file) or nodes (crates/node_file). The form is part of what is asked; no byte of
-- the file decides it. `w` is the words of nodes, three each, `s` the bytes of a file.
use Rattle.std.specs.Prelude.{ℕ, ◌*◌, ◌≡◌, List, ◌++◌, length, drop}
use Rattle.blocks.specs.Block.{Stored, block_bytes, place_bytes, nodes_bytes, Outcome, nodes, refused, said}
use Rattle.block_file.specs.File.{block_count, file_of, Reading, reading, read_file, write_outcome}
use Rattle.node_file.specs.NodeFile.{read_nodes, write_outcome as writeNodes}
use Rattle.forms.specs.declared.Form.{Form}
use Rattle.forms.specs.declared.Form.TheVariants.{Blocks, Nodes}

abbrev pub read_as : Form → List ℕ → List ℕ → Reading
read_as Blocks s out = read_file s out
read_as Nodes s out = read_nodes s out

abbrev pub write_as : Form → List ℕ → ℕ → Outcome
write_as Blocks w lent = write_outcome w lent
write_as Nodes w lent = writeNodes w lent

-- the bytes of the file of some nodes; how many they are
abbrev pub file_as : Form → List ℕ → List ℕ
file_as Blocks w = file_of w
file_as Nodes w = nodes_bytes w

abbrev pub bytes_as : Form → ℕ → ℕ
bytes_as Blocks n = block_bytes * block_count n
bytes_as Nodes n = place_bytes * n

-- the writer's number for a buffer that is too short
abbrev pub short_as : Form → ℕ
short_as Blocks = 4
short_as Nodes = 54

-- The buffer after writing: the file and the rest as it was, or all as it was.
unfoldable pub left_as : Form → List ℕ → List ℕ → Outcome → List ℕ
left_as form w file (nodes n) = file_as form w ++ drop (length (file_as form w)) file
left_as form w file (refused k p) = file

-- What reading and writing say and leave.
pub record FormReads (form : Form) (s before left : List ℕ) (r : Stored) : Type 0 where
  pub is : reading (said r) left ≡ read_as form s before

pub record FormWrites (form : Form) (w before left : List ℕ) (r : Stored) : Type 0 where
  pub answer : said r ≡ write_as form w (length before)
  pub leaves : left ≡ left_as form w before (write_as form w (length before))
