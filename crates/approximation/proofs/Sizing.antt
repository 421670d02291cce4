-- What the check of a size target says: 18.
use Prim.Native.Nat.{ℕ, ◌≤◌, ◌<◌}
use mathlib.Core.Path.{◌≡◌, refl, sym, ◌∙◌}
use mathlib.Core.Logic.{◌⊎◌, inl, inr}
use mathlib.Core.Bool.{and-false}
use mathlib.Core.List.{List}
use native.Mathlib.Omega.{arith}
use lib.Dec.{eqb}
use borrow.Author.Tests.{lt-ltb, le-ltb, eq-eqb, ne_eqb}
use Rattle.diagram.specs.Diagram.{size, vars, holds}
use Rattle.diagram.specs.Valuations.{count_of}
use Rattle.diagram.specs.Verdict.{accepted, refused, row}
use Rattle.diagram.proofs.Tests.{by_test, by-eq, not_both}
use Rattle.diagram.proofs.Tally.{tally_none, tally_nowhere}
use Rattle.diagram.proofs.Outcomes.{same_refusal, same_counts, never_both}
use Rattle.approximation.specs.Cut.{under_size_of, over_size_of, Over}
use Rattle.approximation.specs.Demand2.{Nowhere, SizeVerdict}
use Rattle.approximation.proofs.Constants.{one_holds}

-- ---- a count of none

pub none_nowhere : (w : List ℕ) → count_of w ≡ 0 → Nowhere w
none_nowhere w e = tally_nowhere (vars w) (holds w) e

pub nowhere_none : (w : List ℕ) → Nowhere w → count_of w ≡ 0
nowhere_none w = tally_none (vars w) (holds w)

-- ---- the rows

module _ (w : List ℕ) (t : ℕ) where
  pub under_some : 1 ≤ t → under_size_of w t ≡ accepted (size w) (vars w)
  unfolding under_size_of row
  under_some h = let ne : t ≡ 0 → ⊥ = omega arith in rw (ne_eqb t 0 ne) refl

  pub under_18 : t ≡ 0 → under_size_of w t ≡ refused 18 0
  unfolding under_size_of row
  under_18 e = rw (eq-eqb t 0 e) refl

  pub over_many : 2 ≤ t → over_size_of w t ≡ accepted (size w) (vars w)
  unfolding over_size_of row
  over_many h =
      let ne : t ≡ 0 → ⊥ = omega arith in
      let no : t ≡ 1 → ⊥ = omega arith in
      rw (ne_eqb t 0 ne, ne_eqb t 1 no) refl

  pub over_one : t ≡ 1 → count_of w ≡ 0 → over_size_of w t ≡ accepted (size w) (vars w)
  unfolding over_size_of row
  over_one e none =
      let ne : t ≡ 0 → ⊥ = omega arith in
      rw (ne_eqb t 0 ne, le-ltb 0 (count_of w) (omega arith), and-false (eqb t 1)) refl

  over_18_none : t ≡ 0 → over_size_of w t ≡ refused 18 0
  unfolding over_size_of row
  over_18_none e = rw (eq-eqb t 0 e) refl

  pub over_18 : t ≡ 1 → 0 < count_of w → over_size_of w t ≡ refused 18 0
  unfolding over_size_of row
  over_18 e some =
      let ne : t ≡ 0 → ⊥ = omega arith in
      rw (ne_eqb t 0 ne, eq-eqb t 1 e, lt-ltb 0 (count_of w) some) refl

  -- a size is none, or not; from above it is none, one, or more
  by_under : (P : Type 0) → (t ≡ 0 → P) → (1 ≤ t → P) → P
  by_under P none some = by-eq t 0 none (λ ne. some (omega arith))

  by_over : (P : Type 0) → (t ≡ 0 → P) → (t ≡ 1 → 0 < count_of w → P) → (t ≡ 1 → count_of w ≡ 0 → P) → (2 ≤ t → P) → P
  by_over P none one-refused one many = by-eq t 0 none (λ ne. by-eq t 1
      (λ e. by-eq (count_of w) 0 (one e) (λ some. one-refused e (omega arith)))
      (λ no. many (omega arith)))

  -- ---- what an acceptance tells

  pub under_accepted_some : {n v : ℕ} → under_size_of w t ≡ accepted n v → 1 ≤ t
  under_accepted_some e = by_under (1 ≤ t) (λ none. absurd (never_both (under_18 none) e)) (λ h. h)

  pub over_accepted_some : {n v : ℕ} → over_size_of w t ≡ accepted n v → (2 ≤ t) ⊎ ((t ≡ 1) × (count_of w ≡ 0))
  over_accepted_some e = by_over ((2 ≤ t) ⊎ ((t ≡ 1) × (count_of w ≡ 0)))
      (λ none. absurd (never_both (over_18_none none) e))
      (λ one some. absurd (never_both (over_18 one some) e))
      (λ one none. inr (one, none))
      (λ h. inl h)

  pub over_accepted_least : {n v : ℕ} → over_size_of w t ≡ accepted n v → 1 ≤ t
  over_accepted_least e = elim (over_accepted_some e) [
    | inl h ↦ omega arith
    | inr h ↦ omega (arith, h.0)
  ]

  -- it has the diagram's own counts
  pub under_size_own : {n v : ℕ} → under_size_of w t ≡ accepted n v → under_size_of w t ≡ accepted (size w) (vars w)
  under_size_own e = under_some (under_accepted_some e)

  pub over_size_own : {n v : ℕ} → over_size_of w t ≡ accepted n v → over_size_of w t ≡ accepted (size w) (vars w)
  over_size_own e = elim (over_accepted_some e) [
    | inl h ↦ over_many h
    | inr h ↦ over_one h.0 h.1
  ]

  -- ---- in words of the diagram

  over_nowhere : (2 ≤ t) ⊎ ((t ≡ 1) × Nowhere w) → over_size_of w t ≡ accepted (size w) (vars w)
  over_nowhere (inl h) = over_many h
  over_nowhere (inr (one, none)) = over_one one (nowhere_none w none)

  over_tells : (2 ≤ t) ⊎ ((t ≡ 1) × (count_of w ≡ 0)) → (2 ≤ t) ⊎ ((t ≡ 1) × Nowhere w)
  over_tells (inl h) = inl h
  over_tells (inr (one, none)) = inr (one, none_nowhere w none)

  pub size_verdict_lem : SizeVerdict w t
  size_verdict_lem = record {
    under_accepts = λ n v. (
      (λ e. (let c = same_counts e (under_some (under_accepted_some e)) in (under_accepted_some e, c.0, c.1))),
      (λ h. under_some h.0 ∙ sym (rw (h.1, h.2) refl)),
    );
    over_accepts = λ n v. (
      (λ e. (let some = over_tells (over_accepted_some e) in (let c = same_counts e (over_nowhere some) in (some, c.0, c.1)))),
      (λ h. over_nowhere h.0 ∙ sym (rw (h.1, h.2) refl)),
    );
    under_refuses = λ number place e. by_under ((number ≡ 18) × (place ≡ 0))
        (λ none. same_refusal e (under_18 none))
        (λ h. absurd (never_both e (under_some h)));
    over_refuses = λ number place e. by_over ((number ≡ 18) × (place ≡ 0))
        (λ none. same_refusal e (over_18_none none))
        (λ one some. same_refusal e (over_18 one some))
        (λ one none. absurd (never_both e (over_one one none)))
        (λ h. absurd (never_both e (over_many h)));
    under_found = λ answer u fits. under_some (let some = u.accepted.formed.some in omega arith);
    over_found = λ answer u fits.
        (let some = u.accepted.formed.some in
        by_over (over_size_of w t ≡ accepted (size w) (vars w))
        (λ none. absurd (omega arith))
        (λ one count. over_nowhere (inr (one, only_false answer u (omega arith))))
        (λ one none. over_one one none)
        over_many);
  }
    where
      -- what is on the right side of the array of one node holds for no valuation
      only_false : (answer : List ℕ) → Over w answer → size answer ≡ 1 → Nowhere w
      only_false answer u one = λ bs l. by_test (holds w bs)
          (λ e. absurd (not_both (holds answer bs) (u.implied bs l e) (one_holds answer bs one)))
          (λ e. e)
