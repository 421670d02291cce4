-- Block files (document 01, "The block file"). `w` is the words of nodes, three each, `s` the bytes of a file.
use Rattle.std.specs.Prelude.{ℕ, zero, suc, ◌+◌, ◌-◌, ◌*◌, ◌/◌, ◌%◌, ◌≤◌, ◌<◌, ◌≡◌, cond, not, List, [], ◌++◌, length, take, drop, ltb, eqb}
use Rattle.diagram.specs.Diagram.{var_of, size}
use Rattle.diagram.specs.Verdict.{first}
use Rattle.blocks.specs.Block.{Stored, block_bytes, block_nodes, block_words, max_stored, pair_span, Outcome, nodes, refused, said, row, block_of, block_outcome, block_output}

-- ---- the file of some nodes

-- A block for every fifty nodes: the words of each, and how many blocks there are.
abbrev pub part : List ℕ → ℕ → List ℕ
part w number = take block_words (drop (block_words * number) w)

abbrev pub block_count : ℕ → ℕ
block_count n = (n + (block_nodes - 1)) / block_nodes

unfoldable pub blocks_from : List ℕ → ℕ → ℕ → List ℕ
blocks_from w number zero = []
blocks_from w number (suc c) = block_of (size w) number (part w number) ++ blocks_from w (suc number) c

unfoldable pub file_of : List ℕ → List ℕ
file_of w = blocks_from w 0 (block_count (size w))

-- ---- reading

-- What reading answers, and the output that it leaves.
pub data Reading : Type 0 where
  reading : Outcome → List ℕ → Reading

-- After the last block no byte may stand.
unfoldable pub end_of : ℕ → ℕ → ℕ → Outcome
end_of len number n = row 21 (ltb (block_bytes * number) len) number (nodes n)

-- After a block with this number: a refusal ends the reading; else, while there are nodes to come, `next` reads on from
-- what the block stated and left.
abbrev pub after : Outcome → ℕ → List ℕ → List ℕ → (ℕ → List ℕ → Reading) → Reading
after (refused k p) number s out next = reading (refused k p) out
after (nodes n) number s out next =
    cond (ltb (block_nodes * suc number) n) (next n out) (reading (end_of (length s) (suc number) n) out)

-- Reading on at the block due, at most so many blocks. Each block's nodes go to the output before the next is looked at.
unfoldable pub read_on : ℕ → ℕ → ℕ → List ℕ → List ℕ → Reading
read_on zero number stated s out = reading (refused 21 number) out
read_on (suc c) number stated s out =
    let outcome = block_outcome number stated (drop (block_bytes * number) s) (length out) in
    after outcome number s (block_output number (drop (block_bytes * number) s) out outcome) (λ n left. read_on c (suc number) n s left)

-- As many blocks as the most nodes have: three.
unfoldable pub read_file : List ℕ → List ℕ → Reading
read_file s out = read_on (block_count max_stored) 0 0 s out

-- What reading a file says and leaves.
pub record ReadsFile (s before left : List ℕ) (r : Stored) : Type 0 where
  pub is : reading (said r) left ≡ read_file s before

-- ---- writing

-- The widest variable that two bytes hold. The first node whose variable does not fit them, or n.
abbrev pub widest : ℕ
widest = pair_span - 1

unfoldable pub first_wide : List ℕ → ℕ
first_wide w = first (λ p. ltb widest (var_of w p)) 0 (size w)

unfoldable pub write_outcome : List ℕ → ℕ → Outcome
write_outcome w lent =
    row 1 (eqb (length w) 0) 0
    (row 2 (not (eqb (length w % 3) 0)) 0
    (row 25 (ltb max_stored (size w)) 0
    (row 4 (ltb lent (block_bytes * block_count (size w))) 0
    (row 26 (ltb (first_wide w) (size w)) (first_wide w)
    (nodes (size w))))))

-- The buffer afterwards: the file and the rest as it was, or all as it was.
unfoldable pub written : List ℕ → List ℕ → Outcome → List ℕ
written w file (nodes n) = file_of w ++ drop (length (file_of w)) file
written w file (refused k p) = file

pub record WritesFile (w before left : List ℕ) (r : Stored) : Type 0 where
  pub answer : said r ≡ write_outcome w (length before)
  pub leaves : left ≡ written w before (write_outcome w (length before))

-- Words that have passed the tests but for the buffer's.
pub record Storable (w : List ℕ) : Type 0 where
  pub whole : length w ≡ 3 * size w
  pub some : 0 < size w
  pub few : size w ≤ max_stored
  pub narrow : (p : ℕ) → var_of w p < pair_span
