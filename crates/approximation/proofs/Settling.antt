-- The answer to a target that is met already: kept, it is that of document 01; else it is the same function, reduced.
use Prim.Native.Nat.{ℕ, ◌^◌, ◌≤◌, ◌<◌}
use mathlib.Core.Path.{◌≡◌, refl, sym, ap, ◌∙◌}
use mathlib.Core.Logic.{◌⊎◌}
use mathlib.Core.Bool.{Bool, true, false, cond, ◌&&◌}
use mathlib.Core.List.{List}
use native.Mathlib.Omega.{arith}
use native.Mathlib.Decide.{dec_lt}
use lib.Dec.{leb, ltb}
use borrow.Author.Tests.{leb-true, leb-false, le-leb, lt-leb, lt-ltb, ltb-true}
use Rattle.diagram.specs.Diagram.{size, vars, Ordered, Accepted}
use Rattle.diagram.specs.Valuations.{count_of}
use Rattle.diagram.proofs.Tests.{by-eq, and_both, both_and, not_both}
use Rattle.diagram.proofs.Reading.{accepted_ordered}
use Rattle.reduction.specs.Reduce.{reduce}
use Rattle.reduction.proofs.Canonical.{reduce_size, reduce_vars, reduce_accepted, reduce_holds, reduce_again}
use Rattle.negation.specs.Negation.{negated}
use Rattle.negation.proofs.Meaning.{false_words, true_words, negated_accepted, negated_most, negated_size, negated_twice}
use Rattle.approximation.specs.Constants.{false_of, true_of}
use Rattle.approximation.specs.Cut.{Under, Over}
use Rattle.approximation.specs.Search.{Answer, answer, back, under_to_size, over_to_size, under_to_count, over_to_count}
use Rattle.approximation.specs.Met.{met, under_size_answer, over_size_answer, under_count_answer, over_count_answer, Settles}
use Rattle.approximation.proofs.Search.{first_reduced}
use Rattle.approximation.proofs.Mirrored.{false_reduced, true_reduced, mirrored}
use Rattle.approximation.proofs.Targets.{by_to_size, to_size_none, to_size_true, to_size_false, to_size_same, search_by, to_size_under, to_size_fits, itself_under, itself_over}
use Rattle.approximation.proofs.Targets.{back_words, over_size_one, over_size_negates, over_to_size_over, over_to_size_fits}
use Rattle.approximation.proofs.Targets.{under_count, over_count, Open, to_count_none, to_count_same, to_count_search, count_search_by, to_count_under, to_count_fits}
use Rattle.approximation.proofs.Targets.{opposite, over_count_same, over_words, opposite_open, negation_under, over_to_count_over, over_to_count_fits}

-- The reduced array holds where the array does.
module _ (w : List ℕ) (a : Accepted w) where
  ordered : Ordered w
  ordered = accepted_ordered w a

  reduce_under : Under w (reduce w)
  reduce_under = record {
    accepted = reduce_accepted w ordered;
    variables = reduce_vars w ordered;
    implies = λ bs l h. sym (reduce_holds w ordered bs l) ∙ h;
  }

  reduce_over : Over w (reduce w)
  reduce_over = record {
    accepted = reduce_accepted w ordered;
    variables = reduce_vars w ordered;
    implied = λ bs l h. reduce_holds w ordered bs l ∙ h;
  }

  reduce_count : count_of (reduce w) ≡ count_of w
  reduce_count =
      let less = under_count w (reduce w) reduce_under in
      let more = over_count w (reduce w) reduce_over in
      omega arith

  -- ---- whichever way a target is met

  -- what both answers have, the answer has
  by_met : (P : List ℕ → Type 0) → P w → P (reduce w) → (as_is : Bool) → P (met as_is w).words
  unfolding met
  by_met P same less true = same
  by_met P same less false = less

  by_test : (P : List ℕ → Type 0) (old : Answer) (is_met : Bool) → (is_met ≡ true → P w × P (reduce w)) → (is_met ≡ false → P old.words)
      → (as_is : Bool) → P (cond is_met (met as_is w) old).words
  by_test P old true both other as_is = by_met P (both refl).0 (both refl).1 as_is
  by_test P old false both other as_is = other refl

  settles : (old : Answer) (is_met : Bool) → (is_met ≡ true → old ≡ answer w 0) → (is_met ≡ false → reduce old.words ≡ old.words)
      → Settles old (λ as_is. cond is_met (met as_is w) old)
  unfolding met
  settles old true same other = rw (same refl) (record {
    kept = refl;
    variables = reduce_vars w ordered;
    function = reduce_holds w ordered;
    trials = refl;
    reduced = reduce_again w ordered;
  })
  settles old false same other = record { kept = refl; variables = refl; function = λ bs l. refl; trials = refl; reduced = other refl }

-- ---- which answer it is

module _ (as_is : Bool) (w : List ℕ) (t : ℕ) where
  pub under_size_is_sought : t < size w → under_size_answer as_is w t ≡ under_to_size w t
  unfolding under_size_answer
  under_size_is_sought h = rw (lt-leb (size w) t h) refl

  pub under_size_is_met : size w ≤ t → under_size_answer as_is w t ≡ met as_is w
  unfolding under_size_answer
  under_size_is_met h = rw (le-leb (size w) t h) refl

  pub over_size_is_sought : t < size w → over_size_answer as_is w t ≡ over_to_size w t
  unfolding over_size_answer
  over_size_is_sought h = rw (lt-leb (size w) t h) refl

  pub over_size_is_met : size w ≤ t → over_size_answer as_is w t ≡ met as_is w
  unfolding over_size_answer
  over_size_is_met h = rw (le-leb (size w) t h) refl

module _ (as_is : Bool) (w : List ℕ) (k : ℕ) where
  pub under_count_is_none : k ≡ 0 → under_count_answer as_is w k ≡ under_to_count w k
  unfolding under_count_answer
  under_count_is_none e = rw e refl

  pub under_count_is_sought : 0 < k → k < count_of w → under_count_answer as_is w k ≡ under_to_count w k
  unfolding under_count_answer
  under_count_is_sought low h = rw (lt-ltb 0 k low, lt-leb (count_of w) k h) refl

  pub under_count_is_met : 0 < k → count_of w ≤ k → under_count_answer as_is w k ≡ met as_is w
  unfolding under_count_answer
  under_count_is_met low h = rw (lt-ltb 0 k low, le-leb (count_of w) k h) refl

  pub over_count_is_sought : count_of w < k → over_count_answer as_is w k ≡ over_to_count w k
  unfolding over_count_answer
  over_count_is_sought h = rw (lt-leb k (count_of w) h) refl

  pub over_count_is_met : k ≤ count_of w → over_count_answer as_is w k ≡ met as_is w
  unfolding over_count_answer
  over_count_is_met h = rw (le-leb k (count_of w) h) refl

-- ---- to a size

module _ (w : List ℕ) (t : ℕ) (a : Accepted w) where
  one_same : size w ≡ 1 → answer (false_of (vars w)) 0 ≡ answer w 0
  one_same e = ap (λ (x : List ℕ). answer x 0) (sym (false_words w a.formed e))

  pub under_size_met : size w ≤ t → under_to_size w t ≡ answer w 0
  under_size_met h =
      let some = a.formed.some in
      elim (dec_lt 2 t) [
        | yes many ↦ to_size_same w t many h
        | no few ↦ by-eq t 2
            (λ two. by-eq (size w) 2
            (λ n. to_size_true w t two n ∙ ap (λ (x : List ℕ). answer x 0) (sym (true_words w a.formed n)))
            (λ n. to_size_false w t two n ∙ one_same (omega arith)))
            (λ ne. to_size_none w t (omega arith) ∙ one_same (omega arith))
      ]

  under_size_reduced : t < size w → reduce (under_to_size w t).words ≡ (under_to_size w t).words
  under_size_reduced h = by_to_size w t (λ x. reduce x.words ≡ x.words)
      (λ few. false_reduced (vars w))
      (λ two n. true_reduced (vars w))
      (λ l. absurd (omega arith))
      (search_by w t a (λ x. reduce x ≡ x) (λ c l. first_reduced w (accepted_ordered w a) c))

back_answer : (u : List ℕ) → Accepted u → back (answer (negated u) 0) ≡ answer u 0
unfolding back
back_answer u a = ap (λ (x : List ℕ). answer x 0) (negated_twice u a)

module _ (w : List ℕ) (t : ℕ) (a : Accepted w) where
  pub over_size_met : size w ≤ t → over_to_size w t ≡ answer w 0
  over_size_met h =
      let some = a.formed.some in
      elim (dec_lt 1 t) [
        | no few ↦ over_size_one w t a (omega arith) ∙ one_same w t a (omega arith)
        | yes many ↦
            let most = negated_most w a in
            over_size_negates w t a (omega arith)
            ∙ ap back (under_size_met (negated w) t (negated_accepted w a) (omega arith))
            ∙ back_answer w a
      ]

  over_size_reduced : t < size w → reduce (over_to_size w t).words ≡ (over_to_size w t).words
  over_size_reduced h = elim (dec_lt 1 t) [
    | no few ↦ rw (over_size_one w t a (omega arith)) (false_reduced (vars w))
    | yes many ↦
        let same = negated_size w a.formed (omega arith) in
        let n = negated_accepted w a in
        rw (over_size_negates w t a (omega arith), back_words (under_to_size (negated w) t))
        (mirrored (under_to_size (negated w) t).words (to_size_under (negated w) t n).accepted (under_size_reduced (negated w) t n (omega arith)))
  ]

  -- ---- what is promised

  pub settles_size_under : Settles (under_to_size w t) (λ as_is. under_size_answer as_is w t)
  unfolding under_size_answer
  settles_size_under = settles w a (under_to_size w t) (leb (size w) t)
      (λ e. under_size_met w t a (leb-true (size w) t e))
      (λ e. under_size_reduced w t a (leb-false (size w) t e))

  pub settles_size_over : Settles (over_to_size w t) (λ as_is. over_size_answer as_is w t)
  unfolding over_size_answer
  settles_size_over = settles w a (over_to_size w t) (leb (size w) t)
      (λ e. over_size_met (leb-true (size w) t e))
      (λ e. over_size_reduced (leb-false (size w) t e))

  pub size_under : (as_is : Bool) → 1 ≤ t → Under w (under_size_answer as_is w t).words × (size (under_size_answer as_is w t).words ≤ t)
  unfolding under_size_answer
  size_under as_is some = by_test w a (λ x. Under w x × (size x ≤ t)) (under_to_size w t) (leb (size w) t)
      (λ e.
      let h = leb-true (size w) t e in
      let less = reduce_size w (accepted_ordered w a) in
      ((itself_under w a, h), (reduce_under w a, omega arith)))
      (λ e. (to_size_under w t a, to_size_fits w t a some))
      as_is

  pub size_over : (as_is : Bool) → (2 ≤ t) ⊎ ((t ≡ 1) × (count_of w ≡ 0)) → Over w (over_size_answer as_is w t).words × (size (over_size_answer as_is w t).words ≤ t)
  unfolding over_size_answer
  size_over as_is fine = by_test w a (λ x. Over w x × (size x ≤ t)) (over_to_size w t) (leb (size w) t)
      (λ e.
      let h = leb-true (size w) t e in
      let less = reduce_size w (accepted_ordered w a) in
      ((itself_over w a, h), (reduce_over w a, omega arith)))
      (λ e. (over_to_size_over w t a fine, over_to_size_fits w t a fine))
      as_is

-- ---- to a count

module _ (w : List ℕ) (k : ℕ) (a : Accepted w) (open-target : Open w k) where
  under_count_reduced : (0 < k → k < count_of w) → reduce (under_to_count w k).words ≡ (under_to_count w k).words
  under_count_reduced h = by-eq k 0
      (λ e. rw (to_count_none w k e) (false_reduced (vars w)))
      (λ ne.
      rw (to_count_search w k (omega arith) (h (omega arith)))
      (count_search_by w k a open-target (λ x. reduce x ≡ x) (λ c l. first_reduced w (accepted_ordered w a) c) (omega arith) (h (omega arith))))

  -- the test of `under_count_answer`
  abbrev at_most : Bool
  at_most = ltb 0 k && leb (count_of w) k

  fits : at_most ≡ true → (0 < k) × (count_of w ≤ k)
  fits e =
      let both = and_both (ltb 0 k) (leb (count_of w) k) e in
      (ltb-true 0 k both.0, leb-true (count_of w) k both.1)

  exceeds : at_most ≡ false → 0 < k → k < count_of w
  exceeds e low = elim (dec_lt k (count_of w)) [
    | yes h ↦ h
    | no h ↦ absurd (not_both at_most (both_and (ltb 0 k) (leb (count_of w) k) (lt-ltb 0 k low) (le-leb (count_of w) k (omega arith))) e)
  ]

  pub settles_count_under : Settles (under_to_count w k) (λ as_is. under_count_answer as_is w k)
  unfolding under_count_answer
  settles_count_under = settles w a (under_to_count w k) at_most
      (λ e. to_count_same w k (fits e).0 (fits e).1)
      (λ e. under_count_reduced (exceeds e))

  pub count_under : (as_is : Bool) → Under w (under_count_answer as_is w k).words × (count_of (under_count_answer as_is w k).words ≤ k)
  unfolding under_count_answer
  count_under as_is = by_test w a (λ x. Under w x × (count_of x ≤ k)) (under_to_count w k) at_most
      (λ e. ((itself_under w a, (fits e).1), (reduce_under w a, rw (reduce_count w a) (fits e).1)))
      (λ e. (to_count_under w k a open-target, to_count_fits w k a open-target))
      as_is

module _ (w : List ℕ) (k : ℕ) (a : Accepted w) (most : k ≤ 2 ^ vars w) (open-target : size w ≡ 1 → 0 < k → k < 2 ^ vars w → ⊥) where
  over_count_reduced : count_of w < k → reduce (over_to_count w k).words ≡ (over_to_count w k).words
  over_count_reduced high =
      rw (over_words w k a most open-target high)
      (mirrored (under_to_count (negated w) (opposite w k)).words (negation_under w k a most open-target high).accepted
      (under_count_reduced (negated w) (opposite w k) (negated_accepted w a) (opposite_open w k a most open-target high) (λ low. omega arith)))

  pub settles_count_over : Settles (over_to_count w k) (λ as_is. over_count_answer as_is w k)
  unfolding over_count_answer
  settles_count_over = settles w a (over_to_count w k) (leb k (count_of w))
      (λ e. over_count_same w k (leb-true k (count_of w) e))
      (λ e. over_count_reduced (leb-false k (count_of w) e))

  pub count_over : (as_is : Bool) → Over w (over_count_answer as_is w k).words × (k ≤ count_of (over_count_answer as_is w k).words)
  unfolding over_count_answer
  count_over as_is = by_test w a (λ x. Over w x × (k ≤ count_of x)) (over_to_count w k) (leb k (count_of w))
      (λ e. ((itself_over w a, leb-true k (count_of w) e), (reduce_over w a, rw (reduce_count w a) (leb-true k (count_of w) e))))
      (λ e. (over_to_count_over w k a most open-target, over_to_count_fits w k a most open-target))
      as_is
