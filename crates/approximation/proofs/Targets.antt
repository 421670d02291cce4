-- The answers to a target: the early ones and the searches; inclusion, and the target met.
use Prim.Native.Nat.{ℕ, zero, suc, ◌-◌, ◌^◌, ◌≤◌, ◌<◌}
use mathlib.Core.Path.{◌≡◌, refl, sym, ap, ◌∙◌}
use mathlib.Core.Logic.{◌⊎◌, inl, inr}
use mathlib.Core.Bool.{Bool, true, false, cond, not}
use mathlib.Core.List.{List, [], ◌∷◌}
use native.Mathlib.Omega.{arith}
use native.Mathlib.Decide.{dec_lt}
use lib.ListN.{length}
use borrow.Author.Tests.{le-leb, lt-leb, eq-eqb, ne_eqb, not-true}
use Rattle.diagram.specs.Diagram.{size, vars, holds, Ordered, Accepted}
use Rattle.diagram.specs.Valuations.{tally, count_of}
use Rattle.diagram.proofs.Tests.{by_test, by-eq, not_both}
use Rattle.diagram.proofs.Reading.{accepted_ordered}
use Rattle.diagram.proofs.Tally.{tally_none, tally_most, tally_mono}
use Rattle.approximation.specs.Constants.{false_of, true_of}
use Rattle.negation.specs.Negation.{negated}
use Rattle.approximation.specs.Cut.{Under, Over}
use Rattle.approximation.specs.Search.{Answer, answer, cut_first, size_search, under_to_size, back, over_to_size, count_search, under_to_count, over_to_count}
use Rattle.approximation.proofs.Constants.{false_holds, one_holds, two_holds, false_accepted, true_accepted}
use Rattle.negation.proofs.Meaning.{negated_vars, negated_is_two, negated_holds, negated_count, negated_accepted, negated_most}
use Rattle.approximation.proofs.Sizing.{none_nowhere}
use Rattle.approximation.proofs.Search.{first_under, first_size, size_by_rules, by_size_rules, false_count, count_by_rules, by_count_rules}

-- ---- underapproximations to a size

module _ (w : List ℕ) (t : ℕ) where
  pub to_size_none : t ≤ 1 → under_to_size w t ≡ answer (false_of (vars w)) 0
  unfolding under_to_size
  to_size_none h = rw (le-leb t 1 h) refl

  pub to_size_true : t ≡ 2 → size w ≡ 2 → under_to_size w t ≡ answer (true_of (vars w)) 0
  unfolding under_to_size
  to_size_true e n = rw (lt-leb t 1 (omega arith), eq-eqb t 2 e, eq-eqb (size w) 2 n) refl

  pub to_size_false : t ≡ 2 → (size w ≡ 2 → ⊥) → under_to_size w t ≡ answer (false_of (vars w)) 0
  unfolding under_to_size
  to_size_false e n = rw (lt-leb t 1 (omega arith), eq-eqb t 2 e, ne_eqb (size w) 2 n) refl

  pub to_size_same : 2 < t → size w ≤ t → under_to_size w t ≡ answer w 0
  unfolding under_to_size
  to_size_same h n =
      let ne : t ≡ 2 → ⊥ = omega arith in
      rw (lt-leb t 1 (omega arith), ne_eqb t 2 ne, le-leb (size w) t n) refl

  pub to_size_search : 2 < t → t < size w → under_to_size w t ≡ size_search w t (size w - t) 0 (size w - t) 0
  unfolding under_to_size
  to_size_search h n =
      let ne : t ≡ 2 → ⊥ = omega arith in
      rw (lt-leb t 1 (omega arith), ne_eqb t 2 ne, lt-leb (size w) t n) refl

  pub by_to_size : (P : Answer → Type 0)
      → (t ≤ 2 → P (answer (false_of (vars w)) 0))
      → (t ≡ 2 → size w ≡ 2 → P (answer (true_of (vars w)) 0))
      → (size w ≤ t → P (answer w 0))
      → (2 < t → t < size w → P (size_search w t (size w - t) 0 (size w - t) 0))
      → P (under_to_size w t)
  by_to_size P none two same search = elim (dec_lt 1 t) [
    | no h ↦ rw (to_size_none (omega arith)) (none (omega arith))
    | yes h ↦ by-eq t 2
        (λ e. by-eq (size w) 2
        (λ n. rw (to_size_true e n) (two e n))
        (λ n. rw (to_size_false e n) (none (omega arith))))
        (λ ne. elim (dec_lt t (size w)) [
          | yes l ↦ rw (to_size_search (omega arith) l) (search (omega arith) l)
          | no l ↦ rw (to_size_same (omega arith) (omega arith)) (same (omega arith))
        ])
  ]

-- The constants as answers, and the input itself.
pub false_under : (w : List ℕ) → Ordered w → Under w (false_of (vars w))
false_under w o = record {
  accepted = false_accepted (vars w) o.formed.variables;
  variables = refl;
  implies = λ bs l h. absurd (not_both false (sym (false_holds (vars w) bs) ∙ h) refl);
}

-- False is above what holds for no valuation.
false_over : (w : List ℕ) → Accepted w → count_of w ≡ 0 → Over w (false_of (vars w))
false_over w a none = record {
  accepted = false_accepted (vars w) a.formed.variables;
  variables = refl;
  implied = λ bs l h. absurd (not_both (holds w bs) h (none_nowhere w none bs l));
}

true_under : (w : List ℕ) → Ordered w → size w ≡ 2 → Under w (true_of (vars w))
true_under w o n = record {
  accepted = true_accepted (vars w) o.formed.variables;
  variables = refl;
  implies = λ bs l h. two_holds w bs n;
}

pub itself_under : (w : List ℕ) → Accepted w → Under w w
itself_under w a = record { accepted = a; variables = refl; implies = λ bs l h. h }

pub itself_over : (w : List ℕ) → Accepted w → Over w w
itself_over w a = record { accepted = a; variables = refl; implied = λ bs l h. h }

module _ (w : List ℕ) (t : ℕ) (a : Accepted w) where
  ordered : Ordered w
  ordered = accepted_ordered w a

  -- Where the search begins the last cut that it may come to fits.
  pub search_by : (P : List ℕ → Type 0) → ((c : ℕ) → size (cut_first w c) ≤ t → P (cut_first w c)) → 2 < t → t < size w
      → P (size_search w t (size w - t) 0 (size w - t) 0).words
  search_by P each low high =
      let fits = first_size w ordered (size w - t) (omega arith) in
      by_size_rules w t P each (size_by_rules w t (size w - t) 0 (size w - t) 0 (omega arith)) (omega arith)

  pub to_size_under : Under w (under_to_size w t).words
  to_size_under = by_to_size w t (λ x. Under w x.words)
      (λ h. false_under w ordered)
      (λ e n. true_under w ordered n)
      (λ h. itself_under w a)
      (search_by (Under w) (λ c h. first_under w ordered c))

  -- The answer has at most t nodes.
  pub to_size_fits : 1 ≤ t → size (under_to_size w t).words ≤ t
  to_size_fits some = by_to_size w t (λ x. size x.words ≤ t)
      (λ h. omega arith)
      (λ e n. omega arith)
      (λ h. h)
      (search_by (λ x. size x ≤ t) (λ c h. h))

-- ---- overapproximations, by negation

-- What implies the negation, negated, is implied.
pub over_by_negation : (w u : List ℕ) → Accepted w → Under (negated w) u → Over w (negated u)
over_by_negation w u a under =
    let n = negated_vars w a in
    let v : vars u ≡ vars w = under.variables ∙ n in
    record {
      accepted = negated_accepted u under.accepted;
      variables = negated_vars u under.accepted ∙ v;
      implied = λ bs l h.
          negated_holds u under.accepted bs
          ∙ by_test (holds u bs)
          (λ e. absurd (not_both (holds w bs) h (not-true (holds w bs) (sym (negated_holds w a bs) ∙ under.implies bs (l ∙ sym n) e))))
          (λ e. ap not e);
    }

pub back_words : (a : Answer) → (back a).words ≡ negated a.words
unfolding back
back_words a = refl

module _ (w : List ℕ) (t : ℕ) (a : Accepted w) where
  pub over_size_one : t ≤ 1 → over_to_size w t ≡ answer (false_of (vars w)) 0
  unfolding over_to_size
  over_size_one h = rw (le-leb t 1 h) refl

  pub over_size_negates : 2 ≤ t → over_to_size w t ≡ back (under_to_size (negated w) t)
  unfolding over_to_size
  over_size_negates h = rw (lt-leb t 1 (omega arith)) refl

  -- A target that isn't refused: the answer is on the right side, and has at most t nodes.
  module _ (fine : (2 ≤ t) ⊎ ((t ≡ 1) × (count_of w ≡ 0))) where
    by_over_size : (P : Answer → Type 0) → (t ≡ 1 → count_of w ≡ 0 → P (answer (false_of (vars w)) 0)) → (2 ≤ t → P (back (under_to_size (negated w) t)))
        → P (over_to_size w t)
    by_over_size P one many = elim fine [
      | inl h ↦ rw (over_size_negates h) (many h)
      | inr h ↦ rw (over_size_one (omega (arith, h.0))) (one h.0 h.1)
    ]

    pub over_to_size_over : Over w (over_to_size w t).words
    over_to_size_over = by_over_size (λ x. Over w x.words)
        (λ one none. false_over w a none)
        (λ h. rw (back_words (under_to_size (negated w) t))
        (over_by_negation w (under_to_size (negated w) t).words a (to_size_under (negated w) t (negated_accepted w a))))

    pub over_to_size_fits : size (over_to_size w t).words ≤ t
    over_to_size_fits = by_over_size (λ x. size x.words ≤ t)
        (λ one none. omega arith)
        (λ h.
        (let fits = to_size_fits (negated w) t (negated_accepted w a) (omega arith) in
        let most = negated_most (under_to_size (negated w) t).words (to_size_under (negated w) t (negated_accepted w a)).accepted in
        rw (back_words (under_to_size (negated w) t)) (omega arith)))

-- ---- counts

pub under_count : (w u : List ℕ) → Under w u → count_of u ≤ count_of w
under_count w u under =
    let v = ap (λ (k : ℕ). tally k (holds u)) under.variables in
    let less = tally_mono (vars w) (holds u) (holds w) under.implies in
    omega arith

pub over_count : (w u : List ℕ) → Over w u → count_of w ≤ count_of u
over_count w u over =
    let v = ap (λ (k : ℕ). tally k (holds u)) over.variables in
    let grown = tally_mono (vars w) (holds w) (holds u) over.implied in
    omega arith

pub one_count : (w : List ℕ) → size w ≡ 1 → count_of w ≡ 0
one_count w e = tally_none (vars w) (holds w) (λ bs l. one_holds w bs e)

-- ---- underapproximations to a count

module _ (w : List ℕ) (k : ℕ) where
  pub to_count_none : k ≡ 0 → under_to_count w k ≡ answer (false_of (vars w)) 0
  unfolding under_to_count
  to_count_none e = rw (eq-eqb k 0 e) refl

  pub to_count_same : 0 < k → count_of w ≤ k → under_to_count w k ≡ answer w 0
  unfolding under_to_count
  to_count_same h c =
      let ne : k ≡ 0 → ⊥ = omega arith in
      rw (ne_eqb k 0 ne, le-leb (count_of w) k c) refl

  pub to_count_search : 0 < k → k < count_of w → under_to_count w k ≡ count_search w k (size w - 2) 0 (count_of w - k) 0
  unfolding under_to_count
  to_count_search h c =
      let ne : k ≡ 0 → ⊥ = omega arith in
      rw (ne_eqb k 0 ne, lt-leb (count_of w) k c) refl

  pub by_to_count : (P : Answer → Type 0)
      → (k ≡ 0 → P (answer (false_of (vars w)) 0))
      → (count_of w ≤ k → P (answer w 0))
      → (0 < k → k < count_of w → P (count_search w k (size w - 2) 0 (count_of w - k) 0))
      → P (under_to_count w k)
  by_to_count P none same search = by-eq k 0
      (λ e. rw (to_count_none e) (none e))
      (λ ne. elim (dec_lt k (count_of w)) [
        | yes h ↦ rw (to_count_search (omega arith) h) (search (omega arith) h)
        | no h ↦ rw (to_count_same (omega arith) (omega arith)) (same (omega arith))
      ])

-- No refusal 19: the target is not strictly between 0 and 2^v where the array has two nodes.
abbrev pub Open : List ℕ → ℕ → Type 0
Open w k = size w ≡ 2 → 0 < k → k < 2 ^ vars w → ⊥

module _ (w : List ℕ) (k : ℕ) (a : Accepted w) (open-target : Open w k) where
  -- Where the search runs there is a node to take.
  pub search_many : 0 < k → k < count_of w → 2 < size w
  search_many h c =
      let some = a.formed.some in
      let most = tally_most (vars w) (holds w) in
      by-eq (size w) 1
      (λ e. let none = one_count w e in absurd (omega arith))
      (λ x. by-eq (size w) 2 (λ e. absurd (open-target e h (omega arith))) (λ y. omega arith))

  pub count_search_by : (P : List ℕ → Type 0) → ((c : ℕ) → count_of (cut_first w c) ≤ k → P (cut_first w c)) → 0 < k → k < count_of w
      → P (count_search w k (size w - 2) 0 (count_of w - k) 0).words
  count_search_by P each low high =
      by_count_rules w k P each
      (count_by_rules w k (accepted_ordered w a) (search_many low high) (size w - 2) 0 (count_of w - k) 0 (omega arith))

  pub to_count_under : Under w (under_to_count w k).words
  to_count_under = by_to_count w k (λ x. Under w x.words)
      (λ e. false_under w (accepted_ordered w a))
      (λ h. itself_under w a)
      (count_search_by (Under w) (λ c h. first_under w (accepted_ordered w a) c))

  pub to_count_fits : count_of (under_to_count w k).words ≤ k
  to_count_fits = by_to_count w k (λ x. count_of x.words ≤ k)
      (λ e. let zeros = false_count (vars w) in omega arith)
      (λ h. h)
      (count_search_by (λ x. count_of x ≤ k) (λ c h. h))

-- ---- overapproximations to a count

abbrev pub opposite : List ℕ → ℕ → ℕ
opposite w k = count_of (negated w) - (k - count_of w)

module _ (w : List ℕ) (k : ℕ) where
  pub over_count_same : k ≤ count_of w → over_to_count w k ≡ answer w 0
  unfolding over_to_count
  over_count_same h = rw (le-leb k (count_of w) h) refl

  pub over_count_negates : count_of w < k → over_to_count w k ≡ back (under_to_count (negated w) (opposite w k))
  unfolding over_to_count
  over_count_negates h = rw (lt-leb k (count_of w) h) refl

module _ (w : List ℕ) (k : ℕ) (a : Accepted w) (most : k ≤ 2 ^ vars w) (open-target : size w ≡ 1 → 0 < k → k < 2 ^ vars w → ⊥) where
  pub opposite_open : count_of w < k → Open (negated w) (opposite w k)
  opposite_open high e low less =
      let one = negated_is_two w a e in
      let none = one_count w one in
      let all = negated_count w a in
      let v = ap (λ (n : ℕ). 2 ^ n) (negated_vars w a) in
      open-target one (omega arith) (omega arith)

  pub over_words : count_of w < k → (over_to_count w k).words ≡ negated (under_to_count (negated w) (opposite w k)).words
  over_words high = ap (λ (x : Answer). x.words) (over_count_negates w k high) ∙ back_words (under_to_count (negated w) (opposite w k))

  by_over_count : (P : List ℕ → Type 0) → (k ≤ count_of w → P w)
      → (count_of w < k → P (negated (under_to_count (negated w) (opposite w k)).words)) → P (over_to_count w k).words
  by_over_count P same negates = elim (dec_lt (count_of w) k) [
    | yes h ↦ rw (over_words h) (negates h)
    | no h ↦ rw (over_count_same w k (omega arith)) (same (omega arith))
  ]

  pub negation_under : count_of w < k → Under (negated w) (under_to_count (negated w) (opposite w k)).words
  negation_under h = to_count_under (negated w) (opposite w k) (negated_accepted w a) (opposite_open h)

  pub over_to_count_over : Over w (over_to_count w k).words
  over_to_count_over = by_over_count (Over w)
      (λ h. itself_over w a)
      (λ h. over_by_negation w (under_to_count (negated w) (opposite w k)).words a (negation_under h))

  pub over_to_count_fits : k ≤ count_of (over_to_count w k).words
  over_to_count_fits = by_over_count (λ x. k ≤ count_of x)
      (λ h. h)
      (λ h.
      let u = (under_to_count (negated w) (opposite w k)).words in
      let under = negation_under h in
      let fits = to_count_fits (negated w) (opposite w k) (negated_accepted w a) (opposite_open h) in
      let all = negated_count w a in
      let all-u = negated_count u under.accepted in
      let v = ap (λ (n : ℕ). 2 ^ n) (under.variables ∙ negated_vars w a) in
      omega arith)
