-- What is promised of a file in either form.
use Prim.Native.Nat.{ℕ, ◌*◌, ◌≤◌, ◌<◌, ◌^◌}
use mathlib.Core.Path.{◌≡◌, refl}
use mathlib.Core.Bool.{Bool, true, false}
use mathlib.Core.List.{List, ◌++◌}
use mathlib.Core.Logic.{◌≢◌}
use native.Mathlib.Omega.{arith}
use lib.ListN.{length, get_or, take, drop}
use borrow.Author.Tests.{ltb-true, ltb-false}
use Rattle.diagram.specs.Limits.{max_nodes}
use Rattle.diagram.specs.Diagram.{size}
use Rattle.blocks.specs.Block.{Outcome, Bytes, nodes, refused, row, block_bytes, max_stored, place_bytes}
use Rattle.block_file.specs.File.{reading, block_count, write_outcome}
use Rattle.block_file.proofs.Promised.{files}
use Rattle.node_file.specs.NodeFile.{node_file_bytes, node_input_bytes, write_outcome as writeNodes}
use Rattle.node_file.proofs.Promised.{node_files}
use Rattle.forms.specs.Form.{read_as, write_as, file_as, short_as}
use Rattle.forms.specs.Forms.{Forms}
use Rattle.forms.specs.declared.Form.{Form}
use Rattle.forms.specs.declared.Form.TheVariants.{Blocks, Nodes}

pub written_reads : (form : Form) (w out : List ℕ) (lent n : ℕ) → ((k : ℕ) → get_or w k 0 < 2 ^ 32) → write_as form w lent ≡ nodes n → length w ≤ length out
    → read_as form (file_as form w) out ≡ reading (nodes n) (w ++ drop (length w) out)
written_reads Blocks = files.written_reads
written_reads Nodes = node_files.written_reads

read_is_file : (form : Form) (s out left : List ℕ) (n : ℕ) → Bytes s → read_as form s out ≡ reading (nodes n) left → s ≡ file_as form (take (3 * n) left)
read_is_file Blocks s out left n small e = (files.read_is_file s out left n small e).0
read_is_file Nodes s out left n small e = (node_files.read_is_file s out left n small e).0

pub front_enough : (form : Form) (s out : List ℕ) (k : ℕ) → node_input_bytes ≤ k → read_as form (take k s) out ≡ read_as form s out
front_enough Blocks s out k h = files.front_enough s out k (omega arith)
front_enough Nodes s out k h = node_files.front_enough s out k h

-- ---- a row that doesn't refuse with some number, and the one that would

module _ (short : ℕ) where
  row_past : (k : ℕ) (t : Bool) (q : ℕ) (o : Outcome) {p : ℕ} → k ≢ short → row k t q o ≡ refused short p → (t ≡ false) × (o ≡ refused short p)
  unfolding row
  row_past k true q o h e = let z : k ≡ short = cc in absurd (h z)
  row_past k false q o h e = (refl, e)

  row_here : (t : Bool) (q : ℕ) (o : Outcome) {p : ℕ} → row short t q o ≡ refused short p → (t ≡ false → o ≡ refused short p → t ≡ true) → t ≡ true
  unfolding row
  row_here true q o e h = refl
  row_here false q o e h = h refl e

  -- The last two rows of either writer: the buffer's length, then a wide variable.
  last_rows : (k : ℕ) (t u : Bool) (p q n : ℕ) {r : ℕ} → k ≢ short → row short t p (row k u q (nodes n)) ≡ refused short r → t ≡ true
  last_rows k t u p q n h e = row_here t p (row k u q (nodes n)) e (λ f g. (let v = row_past k u q (nodes n) h g in (let z : ◌≡◌ {A = ℕ} 0 1 = cc in absurd (omega arith))))

pub never_short : (form : Form) (w : List ℕ) (lent place : ℕ) → node_file_bytes ≤ lent → write_as form w lent ≢ refused (short_as form) place
unfolding write_outcome writeNodes
never_short Blocks w lent place fits e =
    let x = row_past 4 1 _ _ _ (λ z. omega arith) e in
    let y = row_past 4 2 _ _ _ (λ z. omega arith) x.1 in
    let u = row_past 4 25 _ _ _ (λ z. omega arith) y.1 in
    let few : size w ≤ max_stored = ltb-false _ _ u.0 in
    let l : lent < block_bytes * block_count (size w) = ltb-true _ _ (last_rows 4 26 _ _ _ _ _ (λ z. omega arith) u.1) in
    omega arith
never_short Nodes w lent place fits e =
    let x = row_past 54 1 _ _ _ (λ z. omega arith) e in
    let y = row_past 54 2 _ _ _ (λ z. omega arith) x.1 in
    let u = row_past 54 53 _ _ _ (λ z. omega arith) y.1 in
    let few : size w ≤ max_nodes = ltb-false _ _ u.0 in
    let l : lent < place_bytes * size w = ltb-true _ _ (last_rows 54 55 _ _ _ _ _ (λ z. omega arith) u.1) in
    omega arith

pub forms : Forms
forms = record { written_reads = written_reads; read_is_file = read_is_file; never_short = never_short; front_enough = front_enough }
