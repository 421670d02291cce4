-- The searches obey their rules, which lead to no other answer.
use Prim.Native.Nat.{ℕ, zero, suc, ◌+◌, ◌-◌, ◌≤◌, ◌<◌}
use mathlib.Core.Path.{◌≡◌, refl, sym, ap, ◌∙◌}
use mathlib.Core.Bool.{true, false}
use mathlib.Core.List.{List, [], ◌∷◌}
use native.Mathlib.Omega.{arith}
use native.Mathlib.Decide.{dec_lt}
use lib.ListN.{length, get_or, take, drop, length-drop, drop_of_length-le}
use lib.Seq.{drop-cons}
use lib.Dec.{leb}
use borrow.Author.Tests.{lt-ltb, le-ltb, le-leb, lt-leb, eq-eqb, ne_eqb}
use Rattle.diagram.specs.Diagram.{size, vars, root, holds, Ordered}
use Rattle.diagram.specs.Valuations.{count_of, weight_of}
use Rattle.diagram.proofs.Tests.{by_test, by-eq}
use Rattle.diagram.proofs.Tally.{tally_none}
use Rattle.reduction.specs.Reduce.{reduce}
use Rattle.approximation.specs.Constants.{false_of}
use Rattle.approximation.specs.Cut.{listed, Under}
use Rattle.approximation.specs.Search.{Answer, answer, order, cut_first, middle, size_search, covering, reached, count_search}
use Rattle.approximation.specs.Rules.{SizeRules, last, exact, fewer, more, CountRules, enough, on}
use Rattle.approximation.proofs.Constants.{false_holds}
use Rattle.approximation.proofs.Cut.{cut_root_under, cut_size, cut_reduced, cut_under}
use Rattle.approximation.proofs.Members.{order_length, first_hits, root_taken}

-- ---- the cut by the first priorities

module _ (w : List ℕ) (o : Ordered w) (c : ℕ) where
  pub first_under : Under w (cut_first w c)
  unfolding cut_first
  first_under = cut_under w o (listed (take c (order w)))

  pub first_reduced : reduce (cut_first w c) ≡ cut_first w c
  unfolding cut_first
  first_reduced = cut_reduced w o (listed (take c (order w))) 0 (omega arith)

  first_root : listed (take c (order w)) (root w) ≡ true → cut_first w c ≡ false_of (vars w)
  unfolding cut_first
  first_root = cut_root_under w o (listed (take c (order w)))

  first_free : listed (take c (order w)) (root w) ≡ false → c ≤ size w - 2 → size (cut_first w c) ≤ size w - c
  unfolding cut_first
  first_free free h =
      let s = cut_size w o (listed (take c (order w))) 0 (omega arith) free in
      let found = first_hits w c h in
      omega arith

  -- Each priority is a node less.
  pub first_size : c ≤ size w - 2 → size (cut_first w c) ≤ size w - c
  first_size h =
      let some = o.formed.some in
      by_test (listed (take c (order w)) (root w))
      (λ e. let s = ap (λ (x : List ℕ). size x) (first_root e) in omega arith)
      (λ e. first_free e h)

  -- All of them leave nothing.
  pub first_all : 2 < size w → size w - 2 ≤ c → cut_first w c ≡ false_of (vars w)
  first_all many h = first_root (root_taken w c many h)

-- ---- the size search obeys its rules

module _ (w : List ℕ) (t : ℕ) where
  pub search_last : (fuel start stop trials : ℕ) → stop ≤ start → size_search w t fuel start stop trials ≡ answer (cut_first w stop) (suc trials)
  unfolding size_search
  search_last zero start stop trials h = refl
  search_last (suc fuel) start stop trials h = rw (le-ltb start stop h) refl

  module _ (fuel start stop trials : ℕ) (h : start < stop) where
    pub search_exact : size (cut_first w (middle start stop)) ≡ t
        → size_search w t (suc fuel) start stop trials ≡ answer (cut_first w (middle start stop)) (suc trials)
    unfolding size_search
    search_exact e = rw (lt-ltb start stop h, eq-eqb (size (cut_first w (middle start stop))) t e) refl

    pub search_fewer : size (cut_first w (middle start stop)) < t
        → size_search w t (suc fuel) start stop trials ≡ size_search w t fuel start (middle start stop) (suc trials)
    unfolding size_search
    search_fewer l =
        let ne : size (cut_first w (middle start stop)) ≡ t → ⊥ = omega arith in
        rw (lt-ltb start stop h, ne_eqb (size (cut_first w (middle start stop))) t ne, lt-ltb (size (cut_first w (middle start stop))) t l) refl

    pub search_more : t < size (cut_first w (middle start stop))
        → size_search w t (suc fuel) start stop trials ≡ size_search w t fuel (suc (middle start stop)) stop (suc trials)
    unfolding size_search
    search_more l =
        let ne : size (cut_first w (middle start stop)) ≡ t → ⊥ = omega arith in
        let ge : t ≤ size (cut_first w (middle start stop)) = omega arith in
        rw (lt-ltb start stop h, ne_eqb (size (cut_first w (middle start stop))) t ne, le-ltb (size (cut_first w (middle start stop))) t ge) refl

  -- The fuel lasts.
  pub size_by_rules : (fuel start stop trials : ℕ) → stop - start ≤ fuel
      → SizeRules w t start stop trials (size_search w t fuel start stop trials)
  size_by_rules zero start stop trials f =
      let h : stop ≤ start = omega arith in
      rw (search_last zero start stop trials h) (last h)
  size_by_rules (suc fuel) start stop trials f = elim (dec_lt start stop) [
    | no out ↦
        let h : stop ≤ start = omega arith in
        rw (search_last (suc fuel) start stop trials h) (last h)
    | yes h ↦ by-eq (size (cut_first w (middle start stop))) t
        (λ e. rw (search_exact fuel start stop trials h e) (exact h e))
        (λ ne. elim (dec_lt (size (cut_first w (middle start stop))) t) [
          | yes l ↦ rw (search_fewer fuel start stop trials h l)
              (fewer h l (size_by_rules fuel start (middle start stop) (suc trials) (omega arith)))
          | no l ↦
              let g : t < size (cut_first w (middle start stop)) = omega arith in
              rw (search_more fuel start stop trials h g)
              (more h g (size_by_rules fuel (suc (middle start stop)) stop (suc trials) (omega arith)))
        ])
  ]

  -- They lead to no other answer.
  pub size_rules_only : {start stop trials : ℕ} {a : Answer} → SizeRules w t start stop trials a → (fuel : ℕ) → stop - start ≤ fuel
      → a ≡ size_search w t fuel start stop trials
  size_rules_only (last {start = start} {stop = stop} {trials = trials} h) fuel f = sym (search_last fuel start stop trials h)
  size_rules_only (exact h e) zero f = absurd (omega arith)
  size_rules_only (exact {start = start} {stop = stop} {trials = trials} h e) (suc fuel) f = sym (search_exact fuel start stop trials h e)
  size_rules_only (fewer h l rest) zero f = absurd (omega arith)
  size_rules_only (fewer {start = start} {stop = stop} {trials = trials} h l rest) (suc fuel) f =
      size_rules_only rest fuel (omega arith) ∙ sym (search_fewer fuel start stop trials h l)
  size_rules_only (more h l rest) zero f = absurd (omega arith)
  size_rules_only (more {start = start} {stop = stop} {trials = trials} h l rest) (suc fuel) f =
      size_rules_only rest fuel (omega arith) ∙ sym (search_more fuel start stop trials h l)

  -- Whatever is true of each cut with t nodes or fewer is true of the answer.
  pub by_size_rules : (P : List ℕ → Type 0) → ((c : ℕ) → size (cut_first w c) ≤ t → P (cut_first w c))
      → {start stop trials : ℕ} {a : Answer} → SizeRules w t start stop trials a → size (cut_first w stop) ≤ t → P a.words
  by_size_rules P each (last {stop = stop} h) fits = each stop fits
  by_size_rules P each (exact {start = start} {stop = stop} h e) fits = each (middle start stop) (omega arith)
  by_size_rules P each (fewer h l rest) fits = by_size_rules P each rest (omega arith)
  by_size_rules P each (more h l rest) fits = by_size_rules P each rest fits

-- ---- the count search obeys its rules

pub false_count : (v : ℕ) → count_of (false_of v) ≡ 0
false_count v = tally_none v (holds (false_of v)) (λ bs l. false_holds v bs)

-- The inner walk, a node at a time: it stands at place j of the priorities.
module _ (weight : ℕ → ℕ) (s : List ℕ) where
  pub walk_out : (j rest : ℕ) → length s ≤ j → j + covering weight rest (drop j s) ≡ j
  unfolding covering
  walk_out j rest h = rw (drop_of_length-le s {i = j} h) (omega arith)

  -- the node whose weight reaches the rest ends it
  pub walk_covers : (j rest : ℕ) → j < length s → rest ≤ weight (get_or s j 0) → j + covering weight rest (drop j s) ≡ suc j
  unfolding covering
  walk_covers j rest h c = rw (drop-cons s j 0 h, le-leb rest (weight (get_or s j 0)) c) (omega arith)

  pub walk_on : (j rest : ℕ) → j < length s → weight (get_or s j 0) < rest
      → j + covering weight rest (drop j s) ≡ suc j + covering weight (rest - weight (get_or s j 0)) (drop (suc j) s)
  unfolding covering
  walk_on j rest h c = rw (drop-cons s j 0 h, lt-leb rest (weight (get_or s j 0)) c) (omega arith)

-- It takes a node if there is one.
covering_some : (weight : ℕ → ℕ) (rest : ℕ) (s : List ℕ) → 0 < length s → 0 < covering weight rest s
unfolding covering
covering_some weight rest [] h = absurd (omega arith)
covering_some weight rest (p ∷ s) h = by_test (leb rest (weight p)) (λ e. rw e (omega arith)) (λ e. rw e (omega arith))

module _ (w : List ℕ) where
  reached_more : (taken rest : ℕ) → taken < size w - 2 → taken < reached w taken rest
  reached_more taken rest h =
      let n = order_length w in
      let l = length-drop taken (order w) in
      let some = covering_some (weight_of w) rest (drop taken (order w)) (omega arith) in
      omega arith

module _ (w : List ℕ) (k : ℕ) where
  pub count_enough : (fuel taken rest trials : ℕ) → count_of (cut_first w (reached w taken rest)) ≤ k
      → count_search w k fuel taken rest trials ≡ answer (cut_first w (reached w taken rest)) (suc trials)
  unfolding count_search
  count_enough zero taken rest trials h = refl
  count_enough (suc fuel) taken rest trials h = rw (le-leb (count_of (cut_first w (reached w taken rest))) k h) refl

  pub count_on : (fuel taken rest trials : ℕ) → k < count_of (cut_first w (reached w taken rest))
      → count_search w k (suc fuel) taken rest trials
      ≡ count_search w k fuel (reached w taken rest) (count_of (cut_first w (reached w taken rest)) - k) (suc trials)
  unfolding count_search
  count_on fuel taken rest trials h = rw (lt-leb (count_of (cut_first w (reached w taken rest))) k h) refl

  module _ (o : Ordered w) (many : 2 < size w) where
    all_count : (c : ℕ) → size w - 2 ≤ c → count_of (cut_first w c) ≤ k
    all_count c h =
        let none = ap (λ (x : List ℕ). count_of x) (first_all w o c many h) in
        let zeros = false_count (vars w) in
        omega arith

    -- Each round takes a node, unless all are taken.
    round_more : (taken rest fuel : ℕ) → size w - 2 ≤ taken + suc fuel → size w - 2 ≤ reached w taken rest + fuel
    round_more taken rest fuel f = elim (dec_lt taken (size w - 2)) [
      | yes less ↦ let m = reached_more w taken rest less in omega arith
      | no done ↦ omega arith
    ]

    -- The fuel lasts: when all are taken nothing is left.
    pub count_by_rules : (fuel taken rest trials : ℕ) → size w - 2 ≤ taken + fuel
        → CountRules w k taken rest trials (count_search w k fuel taken rest trials)
    count_by_rules zero taken rest trials f =
        let h = all_count (reached w taken rest) (omega arith) in
        rw (count_enough zero taken rest trials h) (enough h)
    count_by_rules (suc fuel) taken rest trials f = elim (dec_lt k (count_of (cut_first w (reached w taken rest)))) [
      | no out ↦
          let h : count_of (cut_first w (reached w taken rest)) ≤ k = omega arith in
          rw (count_enough (suc fuel) taken rest trials h) (enough h)
      | yes h ↦ rw (count_on fuel taken rest trials h) (on h
          (count_by_rules fuel (reached w taken rest) (count_of (cut_first w (reached w taken rest)) - k) (suc trials) (round_more taken rest fuel f)))
    ]

    -- They lead to no other answer.
    pub count_rules_only : {taken rest trials : ℕ} {a : Answer} → CountRules w k taken rest trials a → (fuel : ℕ) → size w - 2 ≤ taken + fuel
        → a ≡ count_search w k fuel taken rest trials
    count_rules_only (enough {taken = taken} {rest = rest} {trials = trials} h) fuel f = sym (count_enough fuel taken rest trials h)
    count_rules_only (on {taken = taken} {rest = rest} h next) zero f =
        let none = all_count (reached w taken rest) (omega arith) in
        absurd (omega arith)
    count_rules_only (on {taken = taken} {rest = rest} {trials = trials} h next) (suc fuel) f =
        count_rules_only next fuel (round_more taken rest fuel f) ∙ sym (count_on fuel taken rest trials h)

  pub by_count_rules : (P : List ℕ → Type 0) → ((c : ℕ) → count_of (cut_first w c) ≤ k → P (cut_first w c))
      → {taken rest trials : ℕ} {a : Answer} → CountRules w k taken rest trials a → P a.words
  by_count_rules P each (enough {taken = taken} {rest = rest} h) = each (reached w taken rest) h
  by_count_rules P each (on h rest) = by_count_rules P each rest
