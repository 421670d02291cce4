-- The verdicts where a summary is kept, row by row, and when each is given.
use Prim.Native.Nat.{ℕ, ◌<◌}
use mathlib.Core.Path.{◌≡◌, refl, sym, ap, ◌∙◌}
use mathlib.Core.Logic.{◌↔◌, ◌≢◌}
use mathlib.Core.Bool.{false, not}
use mathlib.Core.List.{List}
use native.Mathlib.Omega.{arith}
use lib.ListN.{length, get_or, take}
use lib.Dec.{leb, ltb, eqb}
use borrow.Author.Tests.{ltb-true, ltb-false, lt-ltb, le-ltb}
use Rattle.diagram.specs.Diagram.{size, vars}
use Rattle.diagram.specs.Verdict.{Outcome, accepted, refused, row, verdict_of}
use Rattle.diagram.specs.declared.verdict.Output.TheVariants.{Nothing}
use Rattle.diagram.proofs.Tests.{by_test, not_both}
use Rattle.diagram.proofs.Outcomes.{same_refusal, same_counts, never_both}
use Rattle.pool.specs.Pool.{slot_count, WellFormed, is_pool, needs}
use Rattle.pool.specs.Answers.{place_of, with_added, with_dropped, add_of, live_of, drop_of}
use Rattle.pool.proofs.Testing.{pool_told, pool_tells}
use Rattle.pool.proofs.Rows.{row_on, row_off, Below, accepted_below, row_below, then_below, own_below, add_pool}
use Rattle.summary.specs.Summary.{summary_words, fresh_summary}
use Rattle.summary.specs.Kept.{agrees, roomy, beside, summarized}
use Rattle.summary.specs.Summaries.{Roomy}
use Rattle.summary.proofs.Agreeing.{agrees_told, agrees_tells}

no_pool : (t s : List ℕ) → is_pool t s ≡ false → ¬ WellFormed t s
no_pool t s e f = not_both (is_pool t s) (pool_tells t s f) e

-- ---- the rows

module _ (t s kept : List ℕ) (below : Outcome) where
  pub roomy_off : is_pool t s ≡ false → roomy t s kept below ≡ refused 46 0
  unfolding roomy
  roomy_off e = row_on 46 0 (not (is_pool t s)) _ (ap not e)

  pub roomy_short : WellFormed t s → length kept < summary_words t → roomy t s kept below ≡ refused 37 0
  unfolding roomy
  roomy_short f h =
      row_off 46 0 (not (is_pool t s)) _ (ap not (pool_tells t s f))
      ∙ row_on 37 0 (ltb (length kept) (summary_words t)) _ (lt-ltb (length kept) (summary_words t) h)

  pub roomy_on : Roomy t s kept → roomy t s kept below ≡ below
  unfolding roomy
  roomy_on r =
      row_off 46 0 (not (is_pool t s)) _ (ap not (pool_tells t s r.pool))
      ∙ row_off 37 0 (ltb (length kept) (summary_words t)) _ (le-ltb (length kept) (summary_words t) r.long)

  pub by_roomy : {C : Type 0} → ((¬ WellFormed t s) → roomy t s kept below ≡ refused 46 0 → C)
      → (WellFormed t s → length kept < summary_words t → roomy t s kept below ≡ refused 37 0 → C)
      → (Roomy t s kept → roomy t s kept below ≡ below → C) → C
  by_roomy none short on = by_test (is_pool t s)
      (λ yes-pool.
      let f = pool_told t s yes-pool in
      by_test (ltb (length kept) (summary_words t))
      (λ e. let h = ltb-true (length kept) (summary_words t) e in short f h (roomy_short f h))
      (λ e. let r : Roomy t s kept = record { pool = f; long = ltb-false (length kept) (summary_words t) e } in on r (roomy_on r)))
      (λ e. none (no_pool t s e) (roomy_off e))

-- ---- behind them, 47 and the answer

module _ (t s kept : List ℕ) (answer : Outcome) where
  pub beside_on : Roomy t s kept → take (summary_words t) kept ≡ fresh_summary t s → beside t s kept answer ≡ answer
  unfolding beside
  beside_on r same = roomy_on t s kept _ r ∙ row_off 47 0 (not (agrees t s kept)) answer (ap not (agrees_tells t s kept same))

  pub beside_other : Roomy t s kept → agrees t s kept ≡ false → beside t s kept answer ≡ refused 47 0
  unfolding beside
  beside_other r e = roomy_on t s kept _ r ∙ row_on 47 0 (not (agrees t s kept)) answer (ap not e)

  pub by_beside : {C : Type 0} → ((¬ WellFormed t s) → beside t s kept answer ≡ refused 46 0 → C)
      → (WellFormed t s → length kept < summary_words t → beside t s kept answer ≡ refused 37 0 → C)
      → (Roomy t s kept → take (summary_words t) kept ≢ fresh_summary t s → beside t s kept answer ≡ refused 47 0 → C)
      → (Roomy t s kept → take (summary_words t) kept ≡ fresh_summary t s → beside t s kept answer ≡ answer → C) → C
  unfolding beside
  by_beside none short other on = by_roomy t s kept _ none short (λ r d. by_test (agrees t s kept)
      (λ e. let same = agrees_told t s kept e in on r same (beside_on r same))
      (λ e. other r (λ same. not_both (agrees t s kept) (agrees_tells t s kept same) e) (beside_other r e)))

  -- ---- when each is given, where the answer's own refusals have smaller numbers

  module _ (small : WellFormed t s → Below 37 answer) (place : ℕ) where
    own_number : {number : ℕ} → WellFormed t s → beside t s kept answer ≡ answer → beside t s kept answer ≡ refused number place → number < 37
    own_number f d e = small f _ place (sym d ∙ e)

    pub is_46 : (beside t s kept answer ≡ refused 46 place) ↔ ((¬ WellFormed t s) × (place ≡ 0))
    is_46 = (
      (λ e. by_beside
          (λ none d. (none, sym (same_refusal d e).1))
          (λ f h d. let n = (same_refusal d e).0 in absurd (omega arith))
          (λ r ne d. let n = (same_refusal d e).0 in absurd (omega arith))
          (λ r same d. let n = own_number r.pool d e in absurd (omega arith))),
      (λ h. by_beside
          (λ none d. d ∙ ap (refused 46) (sym h.1))
          (λ f short d. absurd (h.0 f))
          (λ r ne d. absurd (h.0 r.pool))
          (λ r same d. absurd (h.0 r.pool))),
    )

    pub is_37 : (beside t s kept answer ≡ refused 37 place) ↔ (WellFormed t s × (length kept < summary_words t) × (place ≡ 0))
    is_37 = (
      (λ e. by_beside
          (λ none d. let n = (same_refusal d e).0 in absurd (omega arith))
          (λ f h d. (f, h, sym (same_refusal d e).1))
          (λ r ne d. let n = (same_refusal d e).0 in absurd (omega arith))
          (λ r same d. let n = own_number r.pool d e in absurd (omega arith))),
      (λ h. by_beside
          (λ none d. absurd (none h.0))
          (λ f short d. d ∙ ap (refused 37) (sym h.2))
          (λ r ne d. let l = r.long in let m = h.1 in absurd (omega arith))
          (λ r same d. let l = r.long in let m = h.1 in absurd (omega arith))),
    )

    pub is_47 : (beside t s kept answer ≡ refused 47 place) ↔ (Roomy t s kept × (take (summary_words t) kept ≢ fresh_summary t s) × (place ≡ 0))
    is_47 = (
      (λ e. by_beside
          (λ none d. let n = (same_refusal d e).0 in absurd (omega arith))
          (λ f h d. let n = (same_refusal d e).0 in absurd (omega arith))
          (λ r ne d. (r, ne, sym (same_refusal d e).1))
          (λ r same d. let n = own_number r.pool d e in absurd (omega arith))),
      (λ h. by_beside
          (λ none d. absurd (none h.0.pool))
          (λ f short d. let l = h.0.long in absurd (omega arith))
          (λ r ne d. d ∙ ap (refused 47) (sym h.2))
          (λ r same d. absurd (h.1 same))),
    )

-- ---- the answers' own refusals: below 33 a diagram's, 33 to 36 a pool's

place_below : (t s w : List ℕ) (k : ℕ) → Below 37 (place_of t s w k)
unfolding place_of
place_below t s w k =
    row_below 37 33 (leb slot_count k) 0 (omega arith)
    (row_below 37 34 (not (eqb (get_or s k 0) 0)) 0 (omega arith)
    (row_below 37 35 (not (eqb (vars w) (vars t))) 0 (omega arith)
    (row_below 37 36 (ltb (size t) (needs (vars t) (with_added t s w k))) 0 (omega arith)
    (accepted_below 37 (needs (vars t) (with_added t s w k)) (vars t)))))

pub add_small : (t s w : List ℕ) (room k : ℕ) → WellFormed t s → Below 37 (add_of t s w room k)
add_small t s w room k f number place e =
    then_below 37 (verdict_of w Nothing room) (λ n p own. let h = own_below w room n p own in omega arith) (place_below t s w k)
    number place (sym (add_pool t s w k room (pool_tells t s f)) ∙ e)

live_below : (t s : List ℕ) (k n : ℕ) → WellFormed t s → Below 37 (live_of t s k n)
unfolding live_of
live_below t s k n f number place e =
    row_below 37 33 (leb slot_count k) 0 (omega arith)
    (row_below 37 34 (eqb (get_or s k 0) 0) 0 (omega arith)
    (accepted_below 37 n (vars t)))
    number place (sym (row_off 46 0 (not (is_pool t s)) _ (ap not (pool_tells t s f))) ∙ e)

pub drop_small : (t s : List ℕ) (k : ℕ) → WellFormed t s → Below 37 (drop_of t s k)
unfolding drop_of
drop_small t s k = live_below t s k (needs (vars t) (with_dropped t s k))

-- ---- working a summary out

pub is_summarized : (t s kept : List ℕ) (n v : ℕ) → (summarized t s kept ≡ accepted n v) ↔ (Roomy t s kept × (n ≡ size t) × (v ≡ vars t))
is_summarized t s kept n v = (
  (λ e. by_roomy t s kept (accepted (size t) (vars t))
      (λ none d. absurd (never_both d e))
      (λ f h d. absurd (never_both d e))
      (λ r d. (r, (same_counts e d).0, (same_counts e d).1))),
  (λ h. roomy_on t s kept (accepted (size t) (vars t)) h.0 ∙ rw (h.1, h.2) refl),
)
