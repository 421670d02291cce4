-- What is written reads back, and every file read is the one that would be written.
use Prim.Native.Nat.{ℕ, ◌+◌, ◌*◌, ◌/◌, ◌%◌, ◌≤◌, ◌<◌, ◌^◌}
use mathlib.Core.Path.{◌≡◌, sym, ap, ◌∙◌}
use mathlib.Core.Logic.{◌≢◌}
use mathlib.Core.List.{List, [], ◌++◌, append-nil}
use native.Mathlib.Omega.{arith}
use lib.ListN.{length, get_or, take, drop, length-take, drop_of_length-le}
use lib.Seq.{take_at, drop_at, take_all}
use borrow.Author.Tests.{lt-ltb, le-ltb, eq-eqb, ne_eqb}
use Rattle.diagram.specs.Limits.{max_nodes}
use Rattle.diagram.specs.Diagram.{size}
use Rattle.writing.proofs.Laws.{by_le}
use Rattle.blocks.specs.Block.{Bytes, place_bytes, Outcome, nodes, refused, row, nodes_bytes, nodes_at}
use Rattle.blocks.proofs.Answering.{nodes_at_length}
use Rattle.blocks.proofs.Meaning.{split_nodes, nodes_narrow}
use Rattle.blocks.proofs.Written.{nodes_back}
use Rattle.block_file.specs.File.{reading, first_wide}
use Rattle.block_file.proofs.Storing.{narrow_all, narrow_end}
use Rattle.node_file.specs.NodeFile.{node_input_bytes, read_outcome, read_output, read_nodes, write_outcome, written}
use Rattle.node_file.specs.NodeFiles.{NodeFiles}
use Rattle.node_file.proofs.Answering.{is_readable, is_writable, bytes_length}

-- ---- lengths and words that pass every test

pub readable : (n lent : ℕ) → 0 < n → n ≤ max_nodes → 3 * n ≤ lent → read_outcome (place_bytes * n) lent ≡ nodes n
unfolding read_outcome row
readable n lent some few fits =
    let q : place_bytes * n / place_bytes ≡ n = omega arith in
    let z : place_bytes * n % place_bytes ≡ 0 = omega arith in
    let s : place_bytes * n ≢ 0 = λ e. omega arith in
    rw (q, z) (simp (ne_eqb (place_bytes * n) 0 s, le-ltb max_nodes n few, le-ltb lent (3 * n) fits))

pub writable : (w : List ℕ) (n lent : ℕ) → length w ≡ 3 * n → 0 < n → n ≤ max_nodes → place_bytes * n ≤ lent → size w ≤ first_wide w → write_outcome w lent ≡ nodes n
unfolding write_outcome row
writable w n lent whole some few fits wide =
    let s : length w ≢ 0 = λ e. omega arith in
    let z : length w % 3 ≡ 0 = omega arith in
    let q : size w ≡ n = omega arith in
    simp (
      ne_eqb (length w) 0 s,
      eq-eqb (length w % 3) 0 z,
      le-ltb max_nodes (size w) (omega arith),
      le-ltb lent (place_bytes * size w) (omega arith),
      le-ltb (first_wide w) (size w) wide,
    ) (ap nodes q)

-- ---- what is written reads back

written_reads : (w out : List ℕ) (lent n : ℕ) → ((k : ℕ) → get_or w k 0 < 2 ^ 32) → write_outcome w lent ≡ nodes n → length w ≤ length out
    → read_nodes (nodes_bytes w) out ≡ reading (nodes n) (w ++ drop (length w) out)
unfolding read_nodes read_output
written_reads w out lent n small e room =
    let a = is_writable w lent n e in
    let l : length (nodes_bytes w) ≡ place_bytes * n = bytes_length w n a.whole in
    let o : read_outcome (length (nodes_bytes w)) (length out) ≡ nodes n = rw l (readable n (length out) a.some a.few (omega (arith, a.whole))) in
    let b : nodes_at (nodes_bytes w) 0 n ≡ w = nodes_back (nodes_bytes w) w [] 0 n (record { small = small; narrow = a.narrow }) a.whole (sym (append-nil (nodes_bytes w))) in
    rw (o, b) (ap (λ (k : ℕ). reading (nodes n) (w ++ drop k out)) (sym a.whole))

-- ---- what is read would be written

reading_both : {o p : Outcome} {l m : List ℕ} → reading o l ≡ reading p m → (o ≡ p) × (l ≡ m)
reading_both e = (cc, cc)

pub outcome_of : (s out left : List ℕ) (n : ℕ) → read_nodes s out ≡ reading (nodes n) left → read_outcome (length s) (length out) ≡ nodes n
unfolding read_nodes
outcome_of s out left n e = (reading_both e).0

module _ (s out left : List ℕ) (n : ℕ) (small : Bytes s) (e : read_nodes s out ≡ reading (nodes n) left) where
  outcome : read_outcome (length s) (length out) ≡ nodes n
  outcome = outcome_of s out left n e

  left_is : left ≡ nodes_at s 0 n ++ drop (3 * n) out
  unfolding read_nodes read_output
  left_is = sym (rw outcome at (reading_both e).1)

  words_are : take (3 * n) left ≡ nodes_at s 0 n
  words_are = ap (take (3 * n)) left_is ∙ take_at (nodes_at s 0 n) (drop (3 * n) out) (3 * n) (nodes_at_length s 0 n)

  beyond : drop (3 * n) left ≡ drop (3 * n) out
  beyond = ap (drop (3 * n)) left_is ∙ drop_at (nodes_at s 0 n) (drop (3 * n) out) (3 * n) (nodes_at_length s 0 n)

  file_is : s ≡ nodes_bytes (take (3 * n) left)
  file_is =
      let a = is_readable (length s) (length out) n outcome in
      let d : drop (0 + place_bytes * n) s ≡ [] = drop_of_length-le s {i = 0 + place_bytes * n} (omega (arith, a.whole)) in
      split_nodes s small 0 n (omega (arith, a.whole)) ∙ rw d (append-nil (nodes_bytes (nodes_at s 0 n)) ∙ ap nodes_bytes (sym words_are))

  taken : (lent : ℕ) → length s ≤ lent → write_outcome (take (3 * n) left) lent ≡ nodes n
  taken lent h =
      let a = is_readable (length s) (length out) n outcome in
      let l : length (nodes_at s 0 n) ≡ 3 * n = nodes_at_length s 0 n in
      let wide : size (nodes_at s 0 n) ≡ first_wide (nodes_at s 0 n) = narrow_end (narrow_all (nodes_at s 0 n) (nodes_narrow s small 0 n) (size (nodes_at s 0 n)) (omega arith)) (omega arith) in
      rw words_are (writable (nodes_at s 0 n) n lent l a.some a.few (omega (arith, a.whole)) (omega arith))

  read_then_written : (file : List ℕ) → length s ≤ length file
      → (write_outcome (take (3 * n) left) (length file) ≡ nodes n) × (written (take (3 * n) left) file (nodes n) ≡ s ++ drop (length s) file)
  unfolding written
  read_then_written file h = (taken (length file) h, rw (sym file_is))

-- ---- how much of an input is looked at

-- With one node more than there may be, the answer is 53 whatever the length is.
too_many : (s out : List ℕ) → node_input_bytes ≤ length s → read_nodes s out ≡ reading (refused 53 0) out
unfolding read_nodes read_outcome read_output row
too_many s out h =
    let some : length s ≢ 0 = λ e. omega arith in
    simp (ne_eqb (length s) 0 some, lt-ltb max_nodes (length s / place_bytes) (omega arith))

pub front_enough : (s out : List ℕ) (k : ℕ) → node_input_bytes ≤ k → read_nodes (take k s) out ≡ read_nodes s out
front_enough s out k h =
    by_le (length s) k
    (λ l. ap (λ (t : List ℕ). read_nodes t out) (take_all k s l))
    (λ l. too_many (take k s) out (simp length-take (omega arith)) ∙ sym (too_many s out (omega arith)))

pub node_files : NodeFiles
node_files =
    record {
      written_reads = written_reads;
      read_is_file = λ s out left n small e. (file_is s out left n small e, beyond s out left n small e);
      read_then_written = λ s out left file n small e. read_then_written s out left n small e file;
      front_enough = front_enough;
    }
