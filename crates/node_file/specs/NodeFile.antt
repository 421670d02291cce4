-- Node files (docs/NODE-FILES.md): ten bytes a node, as in a block (`nodes_bytes`, `nodes_at` of crates/blocks), and nothing else.
-- `w` is the words of nodes, three each, `s` the bytes of a file.
use Rattle.std.specs.Prelude.{ℕ, ◌+◌, ◌*◌, ◌/◌, ◌%◌, ◌≡◌, not, List, ◌++◌, length, drop, ltb, eqb}
use Rattle.diagram.specs.Limits.{max_nodes}
use Rattle.diagram.specs.Diagram.{size}
use Rattle.blocks.specs.Block.{Stored, place_bytes, Outcome, nodes, refused, said, row, nodes_bytes, nodes_at}
use Rattle.block_file.specs.File.{Reading, reading, first_wide}

-- The bytes of the most nodes, and so many of an input as tell what all of it would: those of one node more.
abbrev pub node_file_bytes : ℕ
node_file_bytes = place_bytes * max_nodes

abbrev pub node_input_bytes : ℕ
node_input_bytes = node_file_bytes + place_bytes

-- ---- reading

-- By the bytes that there are and the words that are lent.
unfoldable pub read_outcome : ℕ → ℕ → Outcome
read_outcome long lent =
    row 51 (eqb long 0) 0
    (row 53 (ltb max_nodes (long / place_bytes)) 0
    (row 52 (not (eqb (long % place_bytes) 0)) 0
    (row 54 (ltb lent (3 * (long / place_bytes))) 0
    (nodes (long / place_bytes)))))

-- The output afterwards: the nodes and the rest as it was, or all as it was.
unfoldable pub read_output : List ℕ → List ℕ → Outcome → List ℕ
read_output s out (nodes n) = nodes_at s 0 n ++ drop (3 * n) out
read_output s out (refused k p) = out

unfoldable pub read_nodes : List ℕ → List ℕ → Reading
read_nodes s out = reading (read_outcome (length s) (length out)) (read_output s out (read_outcome (length s) (length out)))

-- What reading a file says and leaves.
pub record ReadsNodes (s before left : List ℕ) (r : Stored) : Type 0 where
  pub is : reading (said r) left ≡ read_nodes s before

-- ---- writing

unfoldable pub write_outcome : List ℕ → ℕ → Outcome
write_outcome w lent =
    row 1 (eqb (length w) 0) 0
    (row 2 (not (eqb (length w % 3) 0)) 0
    (row 53 (ltb max_nodes (size w)) 0
    (row 54 (ltb lent (place_bytes * size w)) 0
    (row 55 (ltb (first_wide w) (size w)) (first_wide w)
    (nodes (size w))))))

-- The buffer afterwards: the file and the rest as it was, or all as it was.
unfoldable pub written : List ℕ → List ℕ → Outcome → List ℕ
written w file (nodes n) = nodes_bytes w ++ drop (length (nodes_bytes w)) file
written w file (refused k p) = file

pub record WritesNodes (w before left : List ℕ) (r : Stored) : Type 0 where
  pub answer : said r ≡ write_outcome w (length before)
  pub leaves : left ≡ written w before (write_outcome w (length before))
