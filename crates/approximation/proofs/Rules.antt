-- Document 01's sentences on targets: the answers are what they say, and nothing else is.
use Prim.Native.Nat.{ℕ, ◌-◌, ◌^◌, ◌≤◌, ◌<◌}
use mathlib.Core.Path.{◌≡◌, refl, sym, ap, ◌∙◌, subst}
use mathlib.Core.Logic.{◌↔◌}
use mathlib.Core.Bool.{cond}
use mathlib.Core.List.{List}
use native.Mathlib.Omega.{arith}
use native.Mathlib.Decide.{dec_lt}
use lib.Dec.{eqb}
use borrow.Author.Tests.{lt-leb, eq-eqb, ne_eqb}
use Rattle.diagram.specs.Diagram.{size, vars, Accepted}
use Rattle.diagram.specs.Valuations.{count_of}
use Rattle.diagram.proofs.Tests.{by-eq}
use Rattle.diagram.proofs.Reading.{accepted_ordered}
use Rattle.negation.specs.Negation.{negated}
use Rattle.negation.proofs.Words.{negated_false, negated_true}
use Rattle.negation.proofs.Meaning.{negated_vars, negated_accepted, negated_twice, negated_count, negated_most, negated_is_two}
use Rattle.approximation.specs.Constants.{false_of, true_of}
use Rattle.approximation.specs.Search.{Answer, answer, under_to_size, back, over_to_size, under_to_count, over_to_count}
use Rattle.approximation.specs.Rules.{SizeRules, CountRules, ByNegation, UnderSize, OverSize, UnderCount, OverCount}
use Rattle.approximation.proofs.Search.{size_by_rules, size_rules_only, count_by_rules, count_rules_only}
use Rattle.approximation.proofs.Targets.{to_size_none, to_size_same, to_size_search, over_size_one, over_size_negates, to_count_none, to_count_same, to_count_search, Open, search_many, opposite, over_count_same, over_count_negates, opposite_open}

-- ---- from below, to a size

module _ (w : List ℕ) (t : ℕ) where
  to_size_two : t ≡ 2 → under_to_size w t ≡ answer (cond (eqb (size w) 2) (true_of (vars w)) (false_of (vars w))) 0
  unfolding under_to_size
  to_size_two e = rw (lt-leb t 1 (omega arith), eq-eqb t 2 e) refl

  module _ (low : 2 < t) (high : t < size w) where
    to_size_rules : SizeRules w t 0 (size w - t) 0 (under_to_size w t)
    to_size_rules = rw (to_size_search w t low high) (size_by_rules w t (size w - t) 0 (size w - t) 0 (omega arith))

    to_size_only : (a : Answer) → SizeRules w t 0 (size w - t) 0 a → a ≡ under_to_size w t
    to_size_only a rules = size_rules_only w t rules (size w - t) (omega arith) ∙ sym (to_size_search w t low high)

  -- t is one of these
  by_target : (P : Type 0) → 1 ≤ t → (t ≡ 1 → P) → (t ≡ 2 → P) → (2 < t → size w ≤ t → P) → (2 < t → t < size w → P) → P
  by_target P some one two same search = elim (dec_lt 1 t) [
    | no h ↦ one (omega arith)
    | yes h ↦ by-eq t 2 two (λ ne. elim (dec_lt t (size w)) [
      | yes l ↦ search (omega arith) l
      | no l ↦ same (omega arith) (omega arith)
    ])
  ]

  to_size_one : t ≡ 1 → under_to_size w t ≡ answer (false_of (vars w)) 0
  to_size_one e = to_size_none w t (omega arith)

  under_size_is : UnderSize w t (under_to_size w t)
  under_size_is = record { one = to_size_one; two = to_size_two; same = to_size_same w t; search = to_size_rules }

  under_size_only : 1 ≤ t → (a : Answer) → UnderSize w t a → a ≡ under_to_size w t
  under_size_only some a s = by_target (a ≡ under_to_size w t) some
      (λ e. s.one e ∙ sym (to_size_one e))
      (λ e. s.two e ∙ sym (to_size_two e))
      (λ l h. s.same l h ∙ sym (to_size_same w t l h))
      (λ l h. to_size_only l h a (s.search l h))

pub under_size : (w : List ℕ) (t : ℕ) → 1 ≤ t → (a : Answer) → UnderSize w t a ↔ (a ≡ under_to_size w t)
under_size w t some a = (under_size_only w t some a, λ e. rw e (under_size_is w t))

-- ---- by negation

back_of : (words : List ℕ) (trials : ℕ) → back (answer words trials) ≡ answer (negated words) trials
unfolding back
back_of words trials = refl

-- What rules lead to, negated back.
module _ (Rules : Answer → Type 0) (found : Answer) where
  back_by : Rules found → ByNegation Rules (back found)
  back_by r = record { found = found; rules = r; same = refl }

  back_only : ((b : Answer) → Rules b → b ≡ found) → (a : Answer) → ByNegation Rules a → a ≡ back found
  back_only only a n = n.same ∙ ap back (only n.found n.rules)

module _ (w : List ℕ) (a : Accepted w) where
  false_back : back (answer (false_of (vars (negated w))) 0) ≡ answer (true_of (vars w)) 0
  false_back =
      back_of (false_of (vars (negated w))) 0
      ∙ ap (λ (x : List ℕ). answer x 0) (negated_false (false_of (vars (negated w))) refl)
      ∙ ap (λ (v : ℕ). answer (true_of v) 0) (negated_vars w a)

  true_back : back (answer (true_of (vars (negated w))) 0) ≡ answer (false_of (vars w)) 0
  true_back =
      back_of (true_of (vars (negated w))) 0
      ∙ ap (λ (x : List ℕ). answer x 0) (negated_true (true_of (vars (negated w))) refl)
      ∙ ap (λ (v : ℕ). answer (false_of v) 0) (negated_vars w a)

  itself_back : back (answer (negated w) 0) ≡ answer w 0
  itself_back = back_of (negated w) 0 ∙ ap (λ (x : List ℕ). answer x 0) (negated_twice w a)

  one_two : size w ≡ 1 → size (negated w) ≡ 2
  one_two e = ap (λ (x : List ℕ). size x) (negated_false w e)

  -- a diagram of more than two nodes has as many as its negation
  same_size : 2 < size w → size (negated w) ≡ size w
  same_size h =
      let there = negated_most w a in
      let back-again = negated_most (negated w) (negated_accepted w a) in
      let twice = ap (λ (x : List ℕ). size x) (negated_twice w a) in
      omega arith

-- ---- from above, to a size

module _ (w : List ℕ) (t : ℕ) (a : Accepted w) where
  over_is : 2 ≤ t → over_to_size w t ≡ back (under_to_size (negated w) t)
  over_is h = over_size_negates w t a h

  over_one : t ≡ 1 → over_to_size w t ≡ answer (false_of (vars w)) 0
  over_one e = over_size_one w t a (omega arith)

  over_two : t ≡ 2 → over_to_size w t ≡ answer (cond (eqb (size w) 1) (false_of (vars w)) (true_of (vars w))) 0
  over_two e = by-eq (size w) 1
      (λ one. over_is (omega arith) ∙ ap back (to_size_two (negated w) t e)
      ∙ rw (eq-eqb (size (negated w)) 2 (one_two w a one), eq-eqb (size w) 1 one) (true_back w a))
      (λ ne. over_is (omega arith) ∙ ap back (to_size_two (negated w) t e)
      ∙ rw (ne_eqb (size (negated w)) 2 (λ two. ne (negated_is_two w a two)), ne_eqb (size w) 1 ne) (false_back w a))

  over_same : 2 < t → size w ≤ t → over_to_size w t ≡ answer w 0
  over_same l h =
      let most = negated_most w a in
      over_is (omega arith) ∙ ap back (to_size_same (negated w) t l (omega arith)) ∙ itself_back w a

  abbrev Rules : Answer → Type 0
  Rules = SizeRules (negated w) t 0 (size w - t) 0

  module _ (low : 2 < t) (high : t < size w) where
    same : size (negated w) ≡ size w
    same = same_size w a (omega arith)

    over_search : ByNegation Rules (over_to_size w t)
    over_search = rw (over_is (omega arith), sym same)
        (back_by (SizeRules (negated w) t 0 (size (negated w) - t) 0) (under_to_size (negated w) t) (to_size_rules (negated w) t low (rw same high)))

    over_only : (b : Answer) → ByNegation Rules b → b ≡ over_to_size w t
    over_only b n =
        back_only Rules (under_to_size (negated w) t)
        (λ c r. to_size_only (negated w) t low (rw same high) c (rw same r)) b n
        ∙ sym (over_is (omega arith))

  over_size_is : OverSize w t (over_to_size w t)
  over_size_is = record { one = over_one; two = over_two; same = over_same; search = over_search }

  over_size_only : 1 ≤ t → (b : Answer) → OverSize w t b → b ≡ over_to_size w t
  over_size_only some b s = by_target w t (b ≡ over_to_size w t) some
      (λ e. s.one e ∙ sym (over_one e))
      (λ e. s.two e ∙ sym (over_two e))
      (λ l h. s.same l h ∙ sym (over_same l h))
      (λ l h. over_only l h b (s.search l h))

pub over_size : (w : List ℕ) (t : ℕ) → Accepted w → 1 ≤ t → (a : Answer) → OverSize w t a ↔ (a ≡ over_to_size w t)
over_size w t accepted some a = (over_size_only w t accepted some a, λ e. rw e (over_size_is w t accepted))

-- ---- from below, to a count

module _ (w : List ℕ) (k : ℕ) (a : Accepted w) (open-target : Open w k) where
  module _ (low : 0 < k) (high : k < count_of w) where
    to_count_rules : CountRules w k 0 (count_of w - k) 0 (under_to_count w k)
    to_count_rules = rw (to_count_search w k low high)
        (count_by_rules w k (accepted_ordered w a) (search_many w k a open-target low high) (size w - 2) 0 (count_of w - k) 0 (omega arith))

    to_count_only : (b : Answer) → CountRules w k 0 (count_of w - k) 0 b → b ≡ under_to_count w k
    to_count_only b rules =
        count_rules_only w k (accepted_ordered w a) (search_many w k a open-target low high) rules (size w - 2) (omega arith)
        ∙ sym (to_count_search w k low high)

  under_count_is : UnderCount w k (under_to_count w k)
  under_count_is = record { none = to_count_none w k; same = to_count_same w k; search = to_count_rules }

  under_count_only : (b : Answer) → UnderCount w k b → b ≡ under_to_count w k
  under_count_only b s = by-eq k 0
      (λ e. s.none e ∙ sym (to_count_none w k e))
      (λ ne. elim (dec_lt k (count_of w)) [
        | yes h ↦ to_count_only (omega arith) h b (s.search (omega arith) h)
        | no h ↦ s.same (omega arith) (omega arith) ∙ sym (to_count_same w k (omega arith) (omega arith))
      ])

pub under_count : (w : List ℕ) (k : ℕ) → Accepted w → Open w k → (a : Answer) → UnderCount w k a ↔ (a ≡ under_to_count w k)
under_count w k accepted open-target a = (under_count_only w k accepted open-target a, λ e. rw e (under_count_is w k accepted open-target))

-- ---- from above, to a count

module _ (w : List ℕ) (k : ℕ) (a : Accepted w) (most : k ≤ 2 ^ vars w) (open-target : size w ≡ 1 → 0 < k → k < 2 ^ vars w → ⊥) where
  over_all : count_of w < k → k ≡ 2 ^ vars w → over_to_count w k ≡ answer (true_of (vars w)) 0
  over_all h e =
      let both = negated_count w a in
      over_count_negates w k h ∙ ap back (to_count_none (negated w) (opposite w k) (omega arith)) ∙ false_back w a

  abbrev CountsDown : Answer → Type 0
  CountsDown = CountRules (negated w) (opposite w k) 0 (k - count_of w) 0

  module _ (low : count_of w < k) (high : k < 2 ^ vars w) where
    rest : count_of (negated w) - opposite w k ≡ k - count_of w
    rest = let both = negated_count w a in omega arith

    above : 0 < opposite w k
    above = let both = negated_count w a in omega arith

    below : opposite w k < count_of (negated w)
    below = let both = negated_count w a in omega arith

    over_count_search : ByNegation CountsDown (over_to_count w k)
    over_count_search = subst (λ (i : ℕ). ByNegation (CountRules (negated w) (opposite w k) 0 i 0) (over_to_count w k)) rest
        (rw (over_count_negates w k low)
        (back_by (CountRules (negated w) (opposite w k) 0 (count_of (negated w) - opposite w k) 0) (under_to_count (negated w) (opposite w k))
        (to_count_rules (negated w) (opposite w k) (negated_accepted w a) (opposite_open w k a most open-target low) above below)))

    over_count_found : (b : Answer) → ByNegation CountsDown b → b ≡ over_to_count w k
    over_count_found b n =
        back_only CountsDown (under_to_count (negated w) (opposite w k))
        (λ c r. to_count_only (negated w) (opposite w k) (negated_accepted w a) (opposite_open w k a most open-target low) above below c (rw rest r)) b n
        ∙ sym (over_count_negates w k low)

  over_count_is : OverCount w k (over_to_count w k)
  over_count_is = record { same = over_count_same w k; all = over_all; search = over_count_search }

  over_count_only : (b : Answer) → OverCount w k b → b ≡ over_to_count w k
  over_count_only b s = elim (dec_lt (count_of w) k) [
    | no h ↦ s.same (omega arith) ∙ sym (over_count_same w k (omega arith))
    | yes h ↦ by-eq k (2 ^ vars w)
        (λ e. s.all h e ∙ sym (over_all h e))
        (λ ne. over_count_found h (omega arith) b (s.search h (omega arith)))
  ]

pub over_count : (w : List ℕ) (k : ℕ) → Accepted w → k ≤ 2 ^ vars w → (size w ≡ 1 → 0 < k → k < 2 ^ vars w → ⊥)
    → (a : Answer) → OverCount w k a ↔ (a ≡ over_to_count w k)
over_count w k accepted most open-target a =
    (over_count_only w k accepted most open-target a, λ e. rw e (over_count_is w k accepted most open-target))
