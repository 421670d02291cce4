-- The tests of a block, row by row.
use Prim.Native.Nat.{ℕ, ◌+◌, ◌*◌, ◌%◌, ◌≤◌, ◌<◌}
use mathlib.Core.Path.{◌≡◌, refl, sym, ◌∙◌}
use mathlib.Core.Bool.{Bool, true, false, ◌||◌}
use mathlib.Core.List.{List}
use mathlib.Core.Logic.{◌≢◌}
use native.Mathlib.Omega.{arith}
use lib.ListN.{length, take}
use lib.Dec.{eqb, ltb}
use borrow.Author.Tests.{lt-ltb, le-ltb, eq-eqb, ne_eqb, eqb-true, ltb-true, ltb-false, not-false}
use Rattle.diagram.proofs.Tests.{and_both}
use Rattle.blocks.specs.Block.{two, four, here, total, weighted, unused, sums_right, counts_right, Outcome, nodes, refused, row, block_outcome, block_bytes, block_nodes, block_words, summed, max_stored, pair_span}

-- ---- the sums

module _ (s : List ℕ) {a x : ℕ} (ea : a ≡ two s 508) (ex : x ≡ total (take 508 s)) where
  pub sum_wrong : a ≢ x % pair_span → false ≡ sums_right s
  unfolding sums_right
  sum_wrong h = simp (ne_eqb (two s 508) (total (take 508 s) % pair_span) (rw (ea, ex) at h))

  pub sum_decides : {b y : ℕ} → a ≡ x % pair_span → b ≡ two s 510 → y ≡ weighted 1 (take 508 s) → eqb b (y % pair_span) ≡ sums_right s
  unfolding sums_right
  sum_decides h eb ey = rw (eb, ey) (simp (eq-eqb (two s 508) (total (take 508 s) % pair_span) (rw (ea, ex) at h)))

-- What right sums say.
pub record Sums (s : List ℕ) : Type 0 where
  pub first : two s summed ≡ total (take summed s) % pair_span
  pub second : two s (summed + 2) ≡ weighted 1 (take summed s) % pair_span

pub sums_of : (s : List ℕ) → sums_right s ≡ true → Sums s
unfolding sums_right
sums_of s e = let a = and_both _ _ e in record { first = eqb-true _ _ a.0; second = eqb-true _ _ a.1 }

-- ---- the counts

pub same_first : (n number stated : ℕ) → number ≡ 0 → true ≡ (eqb number 0 || eqb n stated)
same_first n number stated h = simp (eq-eqb number 0 h)

pub same_later : (n number stated : ℕ) → number ≢ 0 → eqb n stated ≡ (eqb number 0 || eqb n stated)
same_later n number stated h = simp (ne_eqb number 0 h)

module _ (s : List ℕ) (number stated : ℕ) where
  pub counts_number : {a : ℕ} → a ≡ two s 0 → a ≢ number → false ≡ counts_right number stated s
  unfolding counts_right
  counts_number e h = simp (ne_eqb (two s 0) number (rw e at h))

  module _ {a n : ℕ} (ea : a ≡ two s 0) (here_is : a ≡ number) (en : n ≡ four s 504) where
    pub counts_other : {t : Bool} → t ≡ (eqb number 0 || eqb n stated) → t ≡ false → false ≡ counts_right number stated s
    unfolding counts_right
    counts_other e f =
        let g : (eqb number 0 || eqb (four s 504) stated) ≡ false = rw en at (sym e ∙ f) in
        simp (eq-eqb (two s 0) number (rw ea at here_is), g)

    module _ {t : Bool} (et : t ≡ (eqb number 0 || eqb n stated)) (same : t ≡ true) {h : ℕ} (eh : h ≡ two s 2) where
      same_is : (eqb number 0 || eqb (four s 504) stated) ≡ true
      same_is = rw en at (sym et ∙ same)

      pub counts_none : h ≡ 0 → false ≡ counts_right number stated s
      unfolding counts_right
      counts_none z = let l : ltb 0 (two s 2) ≡ false = le-ltb 0 (two s 2) (omega arith) in simp (eq-eqb (two s 0) number (rw ea at here_is), same_is, l)

      pub counts_decide : {k : ℕ} → h ≢ 0 → k ≡ here n number → eqb h k ≡ counts_right number stated s
      unfolding counts_right
      counts_decide z e =
          let l : ltb 0 (two s 2) ≡ true = lt-ltb 0 (two s 2) (omega arith) in
          rw (e, eh, en) (simp (eq-eqb (two s 0) number (rw ea at here_is), same_is, l))

-- What right counts say.
pub record Counted (s : List ℕ) (number stated : ℕ) : Type 0 where
  pub numbered : two s 0 ≡ number
  pub same : (eqb number 0 || eqb (four s 504) stated) ≡ true
  pub some : 0 < two s 2
  pub held : two s 2 ≡ here (four s 504) number

pub counted : (s : List ℕ) (number stated : ℕ) → counts_right number stated s ≡ true → Counted s number stated
unfolding counts_right
counted s number stated e =
    let a = and_both _ _ e in
    let b = and_both _ _ a.1 in
    let d = and_both _ _ b.1 in
    record {
      numbered = eqb-true _ _ a.0;
      same = b.0;
      some = ltb-true _ _ d.0;
      held = eqb-true _ _ d.1;
    }

-- ---- the rows

row_yes : (k : ℕ) (t : Bool) (p : ℕ) (o : Outcome) → t ≡ true → row k t p o ≡ refused k p
unfolding row
row_yes k t p o e = rw e

row_no : (k : ℕ) (t : Bool) (p : ℕ) (o : Outcome) → t ≡ false → row k t p o ≡ o
unfolding row
row_no k t p o e = rw e

module _ (s : List ℕ) (number stated lent : ℕ) where
  pub refused_21 : length s < block_bytes → refused 21 number ≡ block_outcome number stated s lent
  unfolding block_outcome
  refused_21 h = sym (row_yes 21 _ number _ (lt-ltb (length s) block_bytes h))

  module _ (long : block_bytes ≤ length s) where
    pub refused_22 : sums_right s ≡ false → refused 22 number ≡ block_outcome number stated s lent
    unfolding block_outcome row
    refused_22 h = simp (le-ltb (length s) block_bytes long, h)

    module _ (sums : sums_right s ≡ true) where
      pub refused_23 : counts_right number stated s ≡ false → refused 23 number ≡ block_outcome number stated s lent
      unfolding block_outcome row
      refused_23 h = simp (le-ltb (length s) block_bytes long, sums, h)

      module _ (counts : counts_right number stated s ≡ true) where
        pub refused_25 : max_stored < four s 504 → refused 25 number ≡ block_outcome number stated s lent
        unfolding block_outcome row
        refused_25 h = simp (le-ltb (length s) block_bytes long, sums, counts, lt-ltb max_stored (four s 504) h)

        module _ (few : four s 504 ≤ max_stored) where
          pub refused_24 : eqb (total (unused s (two s 2))) 0 ≡ false → refused 24 number ≡ block_outcome number stated s lent
          unfolding block_outcome row
          refused_24 h = simp (le-ltb (length s) block_bytes long, sums, counts, le-ltb max_stored (four s 504) few, h)

          module _ (rest : eqb (total (unused s (two s 2))) 0 ≡ true) where
            pub refused_4 : lent < block_words * number + 3 * two s 2 → refused 4 number ≡ block_outcome number stated s lent
            unfolding block_outcome row
            refused_4 h =
                simp (le-ltb (length s) block_bytes long, sums, counts, le-ltb max_stored (four s 504) few, rest, lt-ltb lent (block_words * number + 3 * two s 2) h)

            pub taken : block_words * number + 3 * two s 2 ≤ lent → nodes (four s 504) ≡ block_outcome number stated s lent
            unfolding block_outcome row
            taken h =
                simp (le-ltb (length s) block_bytes long, sums, counts, le-ltb max_stored (four s 504) few, rest, le-ltb lent (block_words * number + 3 * two s 2) h)

-- ---- what the tests say of the numbers

pub held_few : (s : List ℕ) (number stated : ℕ) → counts_right number stated s ≡ true → two s 2 ≤ block_nodes
held_few s number stated e = omega (arith, (counted s number stated e).held)

pub due_small : (s : List ℕ) (number stated : ℕ) → counts_right number stated s ≡ true → four s 504 ≤ max_stored → number ≤ 2
due_small s number stated e few = omega (arith, (counted s number stated e).held, (counted s number stated e).some)

-- A block that is taken has passed every test.
pub record Taken (s : List ℕ) (number stated lent n : ℕ) : Type 0 where
  pub long : block_bytes ≤ length s
  pub sums : sums_right s ≡ true
  pub counts : counts_right number stated s ≡ true
  pub few : four s 504 ≤ max_stored
  pub rest : total (unused s (two s 2)) ≡ 0
  pub fits : block_words * number + 3 * two s 2 ≤ lent
  pub count : four s 504 ≡ n

passed : (k : ℕ) (t : Bool) (p : ℕ) (o : Outcome) {n : ℕ} → row k t p o ≡ nodes n → (t ≡ false) × (o ≡ nodes n)
unfolding row
passed k true p o e = let z : ◌≡◌ {A = ℕ} 0 1 = cc in absurd (omega arith)
passed k false p o e = (refl, e)

pub is_taken : (s : List ℕ) (number stated lent n : ℕ) → block_outcome number stated s lent ≡ nodes n → Taken s number stated lent n
unfolding block_outcome
is_taken s number stated lent n e =
    let a = passed _ _ _ _ e in
    let b = passed _ _ _ _ a.1 in
    let d = passed _ _ _ _ b.1 in
    let f = passed _ _ _ _ d.1 in
    let g = passed _ _ _ _ f.1 in
    let h = passed _ _ _ _ g.1 in
    record {
      long = ltb-false _ _ a.0;
      sums = not-false _ b.0;
      counts = not-false _ d.0;
      few = ltb-false _ _ f.0;
      rest = eqb-true _ _ (not-false _ g.0);
      fits = ltb-false _ _ h.0;
      count = cc;
    }
