-- What working a summary out goes by: how many numbers pass a test, step by step; the ways of `comes_to` without their bound; and the words of
-- the records.
use Prim.Native.Nat.{ℕ, zero, suc, ◌+◌, ◌*◌, ◌/◌, ◌%◌, ◌≤◌, ◌<◌}
use mathlib.Core.Path.{◌≡◌, refl, sym, ap, ◌∙◌, subst}
use mathlib.Core.Logic.{◌⊎◌, inl, inr, ⊎_elim, ◌≢◌}
use mathlib.Core.Bool.{Bool, true, false, cond, ◌||◌}
use mathlib.Core.List.{List, [], ◌∷◌}
use native.Mathlib.Omega.{arith}
use lib.ListN.{length, get_or, take, drop, length-append, take-append-drop, get_or-append}
use lib.Seq.{get_or_at, get_or-append-add, take_at, drop_at, length_front, length-take-le, get_or-take, ext_get_or}
use lib.Dec.{eqb}
use borrow.Author.Tests.{le-leb, lt-leb, eq-eqb, ne_eqb}
use Rattle.diagram.specs.Diagram.{var_of, low_of, high_of, size, vars}
use Rattle.diagram.proofs.Tests.{by-eq, cond-true, cond-false}
use Rattle.diagram.proofs.Reading.{by_two}
use Rattle.pool.specs.Pool.{slot_count, WellFormed, Inner, is_free}
use Rattle.summary.specs.Summary.{record_words, summary_words, how_many, is_node_at, nodes_at, comes_to, depends_on, slots_at, records, fresh_summary}
use Rattle.summary.specs.Kept.{renewed}

-- ---- how many numbers below n pass a test

pub many_none : (test : ℕ → Bool) → how_many 0 test ≡ 0
unfolding how_many
many_none test = refl

pub many_yes : (n : ℕ) (test : ℕ → Bool) → test n ≡ true → how_many (suc n) test ≡ suc (how_many n test)
unfolding how_many
many_yes n test e = cond-true (test n) (suc (how_many n test)) (how_many n test) e

pub many_no : (n : ℕ) (test : ℕ → Bool) → test n ≡ false → how_many (suc n) test ≡ how_many n test
unfolding how_many
many_no n test e = cond-false (test n) (suc (how_many n test)) (how_many n test) e

cond_most : (b : Bool) (x n : ℕ) → x ≤ n → cond b (suc x) x ≤ suc n
cond_most true x n h = omega arith
cond_most false x n h = omega arith

pub many_most : (n : ℕ) (test : ℕ → Bool) → how_many n test ≤ n
unfolding how_many
many_most zero test = omega arith
many_most (suc n) test = cond_most (test n) (how_many n test) n (many_most n test)

pub many_same : (n : ℕ) (a b : ℕ → Bool) → ((k : ℕ) → k < n → a k ≡ b k) → how_many n a ≡ how_many n b
unfolding how_many
many_same zero a b same = refl
many_same (suc n) a b same = rw (same n (omega arith), many_same n a b (λ k h. same k (omega arith))) refl

pub many_never : (n : ℕ) (test : ℕ → Bool) → ((k : ℕ) → k < n → test k ≡ false) → how_many n test ≡ 0
many_never zero test never = many_none test
many_never (suc n) test never = many_no n test (never n (omega arith)) ∙ many_never n test (λ k h. never k (omega arith))

-- ---- the nodes at a variable, place by place

abbrev pub nodes_below : List ℕ → ℕ → ℕ → ℕ
nodes_below t i n = how_many n (is_node_at t i)

pub nodes_all : (t : List ℕ) (i : ℕ) → nodes_at t i ≡ nodes_below t i (size t)
unfolding nodes_at
nodes_all t i = refl

module _ (t : List ℕ) (i : ℕ) where
  pub at_terminal : (p : ℕ) → p < 2 → is_node_at t i p ≡ false
  unfolding is_node_at
  at_terminal p h = simp (lt-leb 2 p h)

  pub at_free : (p : ℕ) → is_free t p ≡ true → is_node_at t i p ≡ false
  unfolding is_node_at
  at_free p e = by_two p (λ ends. simp (lt-leb 2 p ends)) (λ two. simp (le-leb 2 p two, e))

  pub at_node : (p : ℕ) → 2 ≤ p → is_free t p ≡ false → is_node_at t i p ≡ eqb (var_of t p) i
  unfolding is_node_at
  at_node p two e = simp (le-leb 2 p two, e)

  pub nodes_none : nodes_below t i 2 ≡ 0
  nodes_none = many_never 2 (is_node_at t i) at_terminal

  pub nodes_free : (p : ℕ) → is_free t p ≡ true → nodes_below t i (suc p) ≡ nodes_below t i p
  nodes_free p e = many_no p (is_node_at t i) (at_free p e)

  pub nodes_here : (p : ℕ) → 2 ≤ p → is_free t p ≡ false → var_of t p ≡ i → nodes_below t i (suc p) ≡ suc (nodes_below t i p)
  nodes_here p two e here = many_yes p (is_node_at t i) (at_node p two e ∙ eq-eqb (var_of t p) i here)

  pub nodes_other : (p : ℕ) → 2 ≤ p → is_free t p ≡ false → var_of t p ≢ i → nodes_below t i (suc p) ≡ nodes_below t i p
  nodes_other p two e other = many_no p (is_node_at t i) (at_node p two e ∙ ne_eqb (var_of t p) i other)

-- ---- the slots that depend on a variable, slot by slot

abbrev pub slots_below : List ℕ → List ℕ → ℕ → ℕ → ℕ
slots_below t s i n = how_many n (λ k. depends_on t i (get_or s k 0))

pub slots_all : (t s : List ℕ) (i : ℕ) → slots_at t s i ≡ slots_below t s i slot_count
unfolding slots_at
slots_all t s i = refl

pub depends_empty : (t : List ℕ) (i : ℕ) → depends_on t i 0 ≡ false
unfolding depends_on
depends_empty t i = refl

pub depends_live : (t : List ℕ) (i r : ℕ) → depends_on t i (suc r) ≡ comes_to t i (vars t) r
unfolding depends_on
depends_live t i r = refl

pub slots_none : (t s : List ℕ) (i : ℕ) → slots_below t s i 0 ≡ 0
slots_none t s i = many_none (λ k. depends_on t i (get_or s k 0))

module _ (t s : List ℕ) (i k : ℕ) where
  pub slots_empty : get_or s k 0 ≡ 0 → slots_below t s i (suc k) ≡ slots_below t s i k
  slots_empty e = many_no k (λ j. depends_on t i (get_or s j 0)) (ap (depends_on t i) e ∙ depends_empty t i)

  pub slots_on : (r : ℕ) → get_or s k 0 ≡ suc r → comes_to t i (vars t) r ≡ true → slots_below t s i (suc k) ≡ suc (slots_below t s i k)
  slots_on r e on = many_yes k (λ j. depends_on t i (get_or s j 0)) (ap (depends_on t i) e ∙ depends_live t i r ∙ on)

  pub slots_off : (r : ℕ) → get_or s k 0 ≡ suc r → comes_to t i (vars t) r ≡ false → slots_below t s i (suc k) ≡ slots_below t s i k
  slots_off r e off = many_no k (λ j. depends_on t i (get_or s j 0)) (ap (depends_on t i) e ∙ depends_live t i r ∙ off)

-- ---- ways

-- A terminal or a node, as live slots and links name them.
abbrev pub Place : List ℕ → ℕ → Type 0
Place t p = (p < 2) ⊎ Inner t p

pub place_node : (t : List ℕ) (p : ℕ) → Place t p → 2 ≤ p → Inner t p
place_node t p place two = ⊎_elim (λ ends. absurd (omega arith)) (λ node. node) place

-- No way leads on from a terminal.
pub comes_end : (t : List ℕ) (i d p : ℕ) → p < 2 → comes_to t i d p ≡ false
unfolding comes_to
comes_end t i zero p h = refl
comes_end t i (suc d) p h = simp (lt-leb 2 p h)

pub comes_step : (t : List ℕ) (i d p : ℕ) → 2 ≤ p
    → comes_to t i (suc d) p ≡ (eqb (var_of t p) i || (comes_to t i d (low_of t p) || comes_to t i d (high_of t p)))
unfolding comes_to
comes_step t i d p two = simp (le-leb 2 p two)

module _ (t s : List ℕ) (f : WellFormed t s) where
  -- Links lead to terminals and nodes: a free place stands at variable 0, and so below no node.
  link_place : (q : ℕ) → q < size t → 0 < var_of t q → Place t q
  link_place q inside up = by_two q inl (λ two. inr (record {
    after = two;
    inside = inside;
    used = λ free. let e = free.var in omega arith;
  }))

  pub low_place : (p : ℕ) → Inner t p → Place t (low_of t p)
  low_place p i = link_place (low_of t p) (f.ranges p i).low (let up = (f.ordered p i).low in omega arith)

  pub high_place : (p : ℕ) → Inner t p → Place t (high_of t p)
  high_place p i = link_place (high_of t p) (f.ranges p i).high (let up = (f.ordered p i).high in omega arith)

  pub place_inside : (p : ℕ) → Place t p → p < size t
  place_inside p = ⊎_elim (λ ends. let two = f.two in omega arith) (λ i. i.inside)

  -- As many links as there are variables left are enough, and more are no more.
  comes_alike : (i d e p : ℕ) → Place t p → vars t ≤ var_of t p + d → vars t ≤ var_of t p + e → comes_to t i d p ≡ comes_to t i e p
  comes_alike i zero e p place m n = ⊎_elim
      (λ ends. comes_end t i zero p ends ∙ sym (comes_end t i e p ends))
      (λ node. let v = (f.ranges p node).var in absurd (omega arith))
      place
  comes_alike i (suc d) zero p place m n = ⊎_elim
      (λ ends. comes_end t i (suc d) p ends ∙ sym (comes_end t i zero p ends))
      (λ node. let v = (f.ranges p node).var in absurd (omega arith))
      place
  comes_alike i (suc d) (suc e) p place m n = ⊎_elim
      (λ ends. comes_end t i (suc d) p ends ∙ sym (comes_end t i (suc e) p ends))
      (λ node.
      let low_up = (f.ordered p node).low in
      let high-up = (f.ordered p node).high in
      rw (
        comes_step t i d p node.after,
        comes_step t i e p node.after,
        comes_alike i d e (low_of t p) (low_place p node) (omega arith) (omega arith),
        comes_alike i d e (high_of t p) (high_place p node) (omega arith) (omega arith),
      ) refl)
      place

  pub comes_enough : (i d p : ℕ) → Place t p → vars t ≤ var_of t p + d → comes_to t i d p ≡ comes_to t i (vars t) p
  comes_enough i d p place m = comes_alike i d (vars t) p place m (omega arith)

  pub comes_node : (i p : ℕ) → Inner t p
      → comes_to t i (vars t) p ≡ (eqb (var_of t p) i || (comes_to t i (vars t) (low_of t p) || comes_to t i (vars t) (high_of t p)))
  comes_node i p node = sym (comes_enough i (suc (vars t)) p (inr node) (omega arith)) ∙ comes_step t i (vars t) p node.after

-- ---- the words of the records

module _ (t s : List ℕ) where
  pub records_length : (n : ℕ) → length (records t s n) ≡ record_words * n
  unfolding records
  records_length zero = refl
  records_length (suc n) =
      let e = records_length n in
      length-append (records t s n) (nodes_at t n ∷ slots_at t s n ∷ []) ∙ omega arith

  pub records_nodes : (n i : ℕ) → i < n → get_or (records t s n) (record_words * i) 0 ≡ nodes_at t i
  unfolding records
  records_nodes zero i h = absurd (omega arith)
  records_nodes (suc n) i h =
      let e = records_length n in
      by-eq i n
      (λ last. rw last (get_or_at (records t s n) (nodes_at t n) (slots_at t s n ∷ []) 0 (record_words * n) e))
      (λ before.
      get_or-append (records t s n) (nodes_at t n ∷ slots_at t s n ∷ []) 0 (record_words * i) (omega arith) ∙ records_nodes n i (omega arith))

  pub records_slots : (n i : ℕ) → i < n → get_or (records t s n) (record_words * i + 1) 0 ≡ slots_at t s i
  unfolding records
  records_slots zero i h = absurd (omega arith)
  records_slots (suc n) i h =
      let e = records_length n in
      by-eq i n
      (λ last.
      rw (last, ← e) (get_or-append-add (records t s n) (nodes_at t n ∷ slots_at t s n ∷ []) 1 0))
      (λ before.
      get_or-append (records t s n) (nodes_at t n ∷ slots_at t s n ∷ []) 0 (record_words * i + 1) (omega arith) ∙ records_slots n i (omega arith))

  pub fresh_length : length (fresh_summary t s) ≡ summary_words t
  fresh_length = records_length (vars t)

  pub fresh_nodes : (i : ℕ) → i < vars t → get_or (fresh_summary t s) (record_words * i) 0 ≡ nodes_at t i
  fresh_nodes = records_nodes (vars t)

  pub fresh_slots : (i : ℕ) → i < vars t → get_or (fresh_summary t s) (record_words * i + 1) 0 ≡ slots_at t s i
  fresh_slots = records_slots (vars t)

  -- Every word of the records is one or the other.
  by_record : (C : ℕ → Type 0) → ((i : ℕ) → i < vars t → C (record_words * i)) → ((i : ℕ) → i < vars t → C (record_words * i + 1))
      → (j : ℕ) → j < summary_words t → C j
  by_record C nodes slots j h = by-eq (j % record_words) 0
      (λ even. subst C (omega arith) (nodes (j / record_words) (omega arith)))
      (λ odd. subst C (omega arith) (slots (j / record_words) (omega arith)))

  -- So they are the fresh ones where each number is right.
  pub fresh_is : (l : List ℕ) → length l ≡ summary_words t → ((i : ℕ) → i < vars t → get_or l (record_words * i) 0 ≡ nodes_at t i)
      → ((i : ℕ) → i < vars t → get_or l (record_words * i + 1) 0 ≡ slots_at t s i) → l ≡ fresh_summary t s
  fresh_is l long nodes slots = ext_get_or 0 l (fresh_summary t s) (long ∙ sym fresh_length) (λ j h.
      by_record (λ x. get_or l x 0 ≡ get_or (fresh_summary t s) x 0)
      (λ i b. nodes i b ∙ sym (fresh_nodes i b))
      (λ i b. slots i b ∙ sym (fresh_slots i b))
      j (omega arith))

  -- ---- in front of other words

  module _ (kept : List ℕ) where
    pub renewed_front : take (summary_words t) (renewed t s kept) ≡ fresh_summary t s
    renewed_front = take_at (fresh_summary t s) (drop (summary_words t) kept) (summary_words t) fresh_length

    pub renewed_behind : drop (summary_words t) (renewed t s kept) ≡ drop (summary_words t) kept
    renewed_behind = drop_at (fresh_summary t s) (drop (summary_words t) kept) (summary_words t) fresh_length

    pub renewed_length : summary_words t ≤ length kept → length (renewed t s kept) ≡ length kept
    renewed_length h = length_front kept (fresh_summary t s) (summary_words t) (fresh_length ∙ sym (length-take-le (summary_words t) kept h))

    pub renewed_is : (kept' : List ℕ) → summary_words t ≤ length kept' → ((i : ℕ) → i < vars t → get_or kept' (record_words * i) 0 ≡ nodes_at t i)
        → ((i : ℕ) → i < vars t → get_or kept' (record_words * i + 1) 0 ≡ slots_at t s i)
        → drop (summary_words t) kept' ≡ drop (summary_words t) kept → kept' ≡ renewed t s kept
    renewed_is kept' long nodes slots behind =
        sym (take-append-drop (summary_words t) kept')
        ∙ rw (
          behind,
          fresh_is (take (summary_words t) kept') (length-take-le (summary_words t) kept' long)
              (λ i h. get_or-take (summary_words t) kept' (record_words * i) 0 (omega arith) ∙ nodes i h)
              (λ i h. get_or-take (summary_words t) kept' (record_words * i + 1) 0 (omega arith) ∙ slots i h),
        ) refl
