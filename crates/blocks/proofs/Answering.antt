-- What reading the block due answers and leaves.
use Prim.Native.Nat.{ℕ, zero, suc, ◌+◌, ◌*◌, ◌≤◌}
use mathlib.Core.Path.{◌≡◌, refl, sym, ap, ◌∙◌}
use mathlib.Core.List.{List}
use native.Mathlib.Omega.{arith}
use lib.ListN.{length}
use Rattle.writing.specs.Writing.{Wrote}
use Rattle.writing.proofs.Laws.{wrote_fits}
use Rattle.blocks.specs.Block.{two, nodes_at, nodes, Stored, said, block_outcome, block_output, Reads, block_words, places, place_bytes}
use Rattle.diagram.specs.declared.verdict.Refused.{Refused}
use Rattle.std.specs.Prelude.{Ok, Err}
use Rattle.blocks.proofs.Testing.{Taken, is_taken, held_few, due_small}

pub nodes_at_length : (s : List ℕ) (from c : ℕ) → length (nodes_at s from c) ≡ 3 * c
unfolding nodes_at
nodes_at_length s from zero = refl
nodes_at_length s from (suc c) = omega (arith, nodes_at_length s (from + 10) c)

module _ (s out : List ℕ) (number stated : ℕ) {r : Stored} (e : said r ≡ block_outcome number stated s (length out)) where
  pub reads_refused : {x : Refused} → r ≡ Err x → Reads number stated s out out (Err x)
  unfolding block_output
  reads_refused {x} f =
      let g : block_outcome number stated s (length out) ≡ said (Err x) = sym e ∙ ap said f in
      record { answer = sym g; left = rw g }

  module _ {n : ℕ} (f : r ≡ Ok n) where
    outcome_is : block_outcome number stated s (length out) ≡ nodes n
    outcome_is = sym e ∙ ap said f

    taken_is : Taken s number stated (length out) n
    taken_is = is_taken s number stated (length out) n outcome_is

    pub number_small : number ≤ 2
    number_small = due_small s number stated taken_is.counts taken_is.few

    pub nodes_inside : {h : ℕ} → h ≡ two s 2 → places + place_bytes * h ≤ length s
    nodes_inside e = omega (arith, held_few s number stated taken_is.counts, taken_is.long)

    pub reads_taken : {h p : ℕ} {after : List ℕ} → h ≡ two s 2 → Wrote (nodes_at s 4 h) out (block_words * number) after p → Reads number stated s out after (Ok n)
    unfolding block_output
    reads_taken {h} {p} {after} eh w =
        let l : length (nodes_at s 4 (two s 2)) ≡ 3 * two s 2 = nodes_at_length s 4 (two s 2) in
        let w' : Wrote (nodes_at s 4 (two s 2)) out (block_words * number) after p = rw eh at w in
        let q = wrote_fits w' (omega (arith, taken_is.fits)) in
        record { answer = sym outcome_is; left = rw outcome_is (rw l at q) }
