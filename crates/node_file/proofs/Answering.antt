-- What reading and writing answer and leave.
use Prim.Native.Nat.{ℕ, ◌+◌, ◌*◌, ◌/◌, ◌%◌, ◌≤◌, ◌<◌}
use mathlib.Core.Path.{◌≡◌, sym, ap, ◌∙◌}
use mathlib.Core.List.{List, ◌++◌}
use native.Mathlib.Omega.{arith}
use lib.ListN.{length, take, drop}
use borrow.Author.Tests.{ltb-false, eqb-true, eqb-false, not-false}
use Rattle.diagram.specs.Limits.{max_nodes}
use Rattle.diagram.specs.Diagram.{var_of, size}
use Rattle.writing.specs.Writing.{Wrote}
use Rattle.writing.proofs.Laws.{wrote_fits}
use Rattle.blocks.specs.Block.{Stored, place_bytes, pair_span, nodes, said, nodes_bytes, nodes_at}
use Rattle.diagram.specs.declared.verdict.Refused.{Refused}
use Rattle.std.specs.Prelude.{Ok, Err}
use Rattle.blocks.proofs.Front.{nodes_length}
use Rattle.blocks.proofs.Answering.{nodes_at_length}
use Rattle.block_file.specs.File.{reading, first_wide}
use Rattle.block_file.proofs.Storing.{passed, all_narrow}
use Rattle.node_file.specs.NodeFile.{read_outcome, read_output, read_nodes, ReadsNodes, write_outcome, written, WritesNodes}

-- ---- reading

-- A length that is read has passed every test.
pub record Readable (long lent n : ℕ) : Type 0 where
  pub some : 0 < n
  pub few : n ≤ max_nodes
  pub whole : long ≡ place_bytes * n
  pub fits : 3 * n ≤ lent

pub is_readable : (long lent n : ℕ) → read_outcome long lent ≡ nodes n → Readable long lent n
unfolding read_outcome
is_readable long lent n e =
    let a = passed _ _ _ _ e in
    let b = passed _ _ _ _ a.1 in
    let d = passed _ _ _ _ b.1 in
    let f = passed _ _ _ _ d.1 in
    let some : long ≡ 0 → ⊥ = eqb-false _ _ a.0 in
    let whole : long % place_bytes ≡ 0 = eqb-true _ _ (not-false _ d.0) in
    let few : long / place_bytes ≤ max_nodes = ltb-false _ _ b.0 in
    let fits : 3 * (long / place_bytes) ≤ lent = ltb-false _ _ f.0 in
    let count : long / place_bytes ≡ n = cc in
    record { some = omega arith; few = omega arith; whole = omega arith; fits = omega arith }

module _ (s out : List ℕ) {r : Stored} (e : said r ≡ read_outcome (length s) (length out)) where
  pub reads_refused : {x : Refused} → r ≡ Err x → ReadsNodes s out out (Err x)
  unfolding read_nodes read_output
  reads_refused {x} f =
      let g : read_outcome (length s) (length out) ≡ said (Err x) = sym e ∙ ap said f in
      record { is = rw g }

  module _ {n : ℕ} (f : r ≡ Ok n) where
    outcome_is : read_outcome (length s) (length out) ≡ nodes n
    outcome_is = sym e ∙ ap said f

    readable : Readable (length s) (length out) n
    readable = is_readable (length s) (length out) n outcome_is

    pub reads_within : 0 + place_bytes * n ≤ length s
    reads_within = omega (arith, readable.whole)

    pub reads_taken : {left : List ℕ} {p : ℕ} → Wrote (nodes_at s 0 n) out 0 left p → ReadsNodes s out left (Ok n)
    unfolding read_nodes read_output
    reads_taken {left} w =
        let l : length (nodes_at s 0 n) ≡ 3 * n = nodes_at_length s 0 n in
        let q : left ≡ take 0 out ++ nodes_at s 0 n ++ drop (0 + length (nodes_at s 0 n)) out = wrote_fits w (omega (arith, readable.fits)) in
        let z : 0 + length (nodes_at s 0 n) ≡ 3 * n = omega arith in
        record { is = rw outcome_is (ap (reading (nodes n)) (rw z at q)) }

-- ---- writing

-- Words that are written have passed every test.
pub record Writable (w : List ℕ) (lent n : ℕ) : Type 0 where
  pub whole : length w ≡ 3 * n
  pub some : 0 < n
  pub few : n ≤ max_nodes
  pub fits : place_bytes * n ≤ lent
  pub narrow : (p : ℕ) → var_of w p < pair_span

pub is_writable : (w : List ℕ) (lent n : ℕ) → write_outcome w lent ≡ nodes n → Writable w lent n
unfolding write_outcome
is_writable w lent n e =
    let a = passed _ _ _ _ e in
    let b = passed _ _ _ _ a.1 in
    let d = passed _ _ _ _ b.1 in
    let f = passed _ _ _ _ d.1 in
    let g = passed _ _ _ _ f.1 in
    let some : length w ≡ 0 → ⊥ = eqb-false _ _ a.0 in
    let whole : length w % 3 ≡ 0 = eqb-true _ _ (not-false _ b.0) in
    let few : size w ≤ max_nodes = ltb-false _ _ d.0 in
    let fits : place_bytes * size w ≤ lent = ltb-false _ _ f.0 in
    let wide : size w ≤ first_wide w = ltb-false _ _ g.0 in
    let count : size w ≡ n = cc in
    record { whole = omega arith; some = omega arith; few = omega arith; fits = omega arith; narrow = all_narrow w (omega arith) wide }

pub bytes_length : (w : List ℕ) (n : ℕ) → length w ≡ 3 * n → length (nodes_bytes w) ≡ place_bytes * n
bytes_length w n e = omega (arith, nodes_length w)

module _ (w file : List ℕ) {r : Stored} (e : said r ≡ write_outcome w (length file)) where
  pub writes_refused : {x : Refused} → r ≡ Err x → WritesNodes w file file (Err x)
  unfolding written
  writes_refused {x} f =
      let g : write_outcome w (length file) ≡ said (Err x) = sym e ∙ ap said f in
      record { answer = sym g; leaves = rw g }

  pub writes_taken : {n : ℕ} → r ≡ Ok n → {left : List ℕ} {p : ℕ} → Wrote (nodes_bytes w) file 0 left p → WritesNodes w file left (Ok n)
  unfolding written
  writes_taken {n} f {left} b =
      let o : write_outcome w (length file) ≡ nodes n = sym e ∙ ap said f in
      let a = is_writable w (length file) n o in
      let l : length (nodes_bytes w) ≡ place_bytes * n = bytes_length w n a.whole in
      let q : left ≡ take 0 file ++ nodes_bytes w ++ drop (0 + length (nodes_bytes w)) file = wrote_fits b (omega (arith, a.fits)) in
      let z : 0 + length (nodes_bytes w) ≡ length (nodes_bytes w) = omega arith in
      record { answer = sym o; leaves = rw o (rw z at q) }
