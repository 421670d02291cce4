-- Two lists have the same words exactly where they are one list; so a summary agrees exactly where its first words are those worked out afresh.
use Prim.Native.Nat.{ℕ, ◌≤◌, ◌<◌}
use mathlib.Core.Path.{◌≡◌, refl, sym, ap, ◌∙◌}
use mathlib.Core.Logic.{◌≢◌}
use mathlib.Core.Bool.{true, false}
use mathlib.Core.List.{List, [], ◌∷◌}
use native.Mathlib.Omega.{arith}
use lib.ListN.{length, get_or, take}
use lib.Seq.{get_or-take, length-take-le, ext_get_or}
use lib.Dec.{eqb}
use borrow.Author.Tests.{eqb-true, eq-eqb}
use Rattle.diagram.proofs.Tests.{by_test, not_both, and_both, both_and}
use Rattle.summary.specs.Summary.{summary_words, fresh_summary}
use Rattle.summary.specs.Kept.{same, agrees}

pub same_told : (xs ys : List ℕ) → same xs ys ≡ true → xs ≡ ys
unfolding same
same_told [] [] e = refl
same_told [] (y ∷ ys) e = absurd (not_both false e refl)
same_told (x ∷ xs) [] e = absurd (not_both false e refl)
same_told (x ∷ xs) (y ∷ ys) e =
    let b = and_both (eqb x y) (same xs ys) e in
    rw (eqb-true x y b.0, same_told xs ys b.1) refl

pub same_self : (xs : List ℕ) → same xs xs ≡ true
unfolding same
same_self [] = refl
same_self (x ∷ xs) = both_and (eqb x x) (same xs xs) (eq-eqb x x refl) (same_self xs)

pub same_tells : (xs ys : List ℕ) → xs ≡ ys → same xs ys ≡ true
same_tells xs ys e = ap (λ (l : List ℕ). same l ys) e ∙ same_self ys

-- Word by word, of the first n words of two lists.
module _ (n : ℕ) (xs ys : List ℕ) where
  pub same_front : n ≤ length xs → n ≤ length ys → ((j : ℕ) → j < n → get_or xs j 0 ≡ get_or ys j 0) → same (take n xs) (take n ys) ≡ true
  same_front in-xs in_ys each =
      let a = length-take-le n xs in-xs in
      let b = length-take-le n ys in_ys in
      same_tells (take n xs) (take n ys) (ext_get_or 0 (take n xs) (take n ys) (a ∙ sym b) (λ j h.
      get_or-take n xs j 0 (omega arith) ∙ each j (omega arith) ∙ sym (get_or-take n ys j 0 (omega arith))))

  pub same_fails : (j : ℕ) → j < n → get_or xs j 0 ≢ get_or ys j 0 → same (take n xs) (take n ys) ≡ false
  same_fails j h differ = by_test (same (take n xs) (take n ys))
      (λ e. absurd (differ (sym (get_or-take n xs j 0 h)
      ∙ ap (λ (l : List ℕ). get_or l j 0) (same_told (take n xs) (take n ys) e) ∙ get_or-take n ys j 0 h)))
      (λ e. e)

module _ (t s kept : List ℕ) where
  pub agrees_told : agrees t s kept ≡ true → take (summary_words t) kept ≡ fresh_summary t s
  unfolding agrees
  agrees_told e = same_told (take (summary_words t) kept) (fresh_summary t s) e

  pub agrees_tells : take (summary_words t) kept ≡ fresh_summary t s → agrees t s kept ≡ true
  unfolding agrees
  agrees_tells e = same_tells (take (summary_words t) kept) (fresh_summary t s) e

  pub agrees_is : agrees t s kept ≡ same (take (summary_words t) kept) (fresh_summary t s)
  unfolding agrees
  agrees_is = refl
