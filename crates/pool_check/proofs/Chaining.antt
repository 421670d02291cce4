-- Chains of nodes with the same key: what one more place does, and the walk along a chain.
use Prim.Native.Nat.{ℕ, ◌+◌, ◌*◌, ◌≤◌, ◌<◌}
use mathlib.Core.Path.{◌≡◌, refl, sym, ap, ◌∙◌}
use mathlib.Core.Logic.{◌≢◌}
use mathlib.Core.Bool.{Bool, true, false, not, ◌&&◌, and-false, not-not}
use mathlib.Core.List.{List}
use native.Mathlib.Omega.{arith}
use native.Mathlib.Decide.{dec_lt}
use borrow.Author.Tests.{leb-true, le-leb, lt-leb, eqb-true}
use lib.ListN.{length, get_or, set, replicate, length-set, length-replicate, get_or-replicate}
use lib.Seq.{get_or-set_same, get_or-set_other}
use lib.Dec.{leb, eqb}
use Rattle.diagram.specs.Limits.{max_nodes}
use Rattle.diagram.specs.Diagram.{var_of, low_of, high_of, size}
use Rattle.diagram.proofs.Tests.{by_test, by-eq, not_both, and_both}
use Rattle.store.specs.Store.{same}
use Rattle.store.specs.Room.{key_of}
use Rattle.store.proofs.Store.{same_yes}
use Rattle.store.proofs.Zones.{key_below}
use Rattle.pool.specs.Pool.{Inner, is_free, is_again}
use Rattle.pool.proofs.Testing.{Alike, alike_used, used_told, used_tells, again_tells, never_again}
use Rattle.pool_check.specs.Chains.{head_in, before_in, node_in, chain_of, Last, Chains, Linked, Met}

-- ---- one place more, for any chains

module _ {chain : ℕ → ℕ} {n : ℕ} where
  last_other : {h x : ℕ} → Last chain h n x → chain n ≢ h → Last chain h (n + 1) x
  last_other l ne = record {
    inside = λ some. let i = l.inside some in omega arith;
    like = l.like;
    passed = λ i after before. by-eq i n (λ e. rw e ne) (λ o. l.passed i after (omega arith));
  }

  last_new : n ≢ 0 → Last chain (chain n) (n + 1) n
  last_new some = record { inside = λ _. omega arith; like = λ _. refl; passed = λ i after before. absurd (omega arith) }

  module _ {c : ℕ} {head before : ℕ → ℕ} (chains : Chains chain c n head before) where
    -- a place in no chain
    chains_pass : c ≤ chain n → Chains chain c (n + 1) head before
    chains_pass none = record {
      heads = λ h k. last_other (chains.heads h k) (λ e. omega arith);
      befores = λ i l k. by-eq i n (λ e. let same : chain i ≡ chain n = ap chain e in absurd (omega arith)) (λ ne. chains.befores i (omega arith) k);
    }

    -- a place becomes the last of its chain
    chains_add : {head' before' : ℕ → ℕ} → n ≢ 0 → chain n < c → head' (chain n) ≡ n → ((h : ℕ) → h < c → h ≢ chain n → head' h ≡ head h)
        → before' n ≡ head (chain n) → ((i : ℕ) → i < n → before' i ≡ before i) → Chains chain c (n + 1) head' before'
    chains_add some in_c new-head old-heads new-before old-befores = record {
      heads = λ h k. by-eq h (chain n)
          (λ e. rw (e, new-head) (last_new some))
          (λ ne. rw (old-heads h k ne) (last_other (chains.heads h k) (λ e. ne (sym e))));
      befores = λ i l k. by-eq i n
          (λ e. rw (e, new-before) (chains.heads (chain n) in_c))
          (λ ne. rw (old-befores i (omega arith)) (chains.befores i (omega arith) k));
    }

-- ---- the chain of a place

chain_node : (t : List ℕ) (p : ℕ) → Inner t p → chain_of t p ≡ key_of (size t) (node_in t p)
unfolding chain_of
chain_node t p i = simp (le-leb 2 p i.after, used_tells t p i.used)

chain_none : (t : List ℕ) (p : ℕ) → leb 2 p && not (is_free t p) ≡ false → chain_of t p ≡ size t
unfolding chain_of
chain_none t p e = rw e

chain_below : (t : List ℕ) (p : ℕ) → Inner t p → chain_of t p < size t
chain_below t p i =
    let e = chain_node t p i in
    let inside = i.inside in
    let k = key_below (size t) (node_in t p) (omega arith) in
    omega arith

-- a place in a chain is a node
chained_after : (t : List ℕ) (q : ℕ) → chain_of t q < size t → 2 ≤ q
chained_after t q l = by_test (leb 2 q && not (is_free t q))
    (λ e. leb-true 2 q (and_both (leb 2 q) (not (is_free t q)) e).0)
    (λ e. let z = chain_none t q e in absurd (omega arith))

alike_node : (t : List ℕ) (q p : ℕ) → Alike t q p → node_in t q ≡ node_in t p
alike_node t q p a = rw (a.var, a.low, a.high)

-- equal nodes are in the same chain
chain_same : (t : List ℕ) (q p : ℕ) → 2 ≤ q → q < p → Inner t p → Alike t q p → chain_of t q ≡ chain_of t p
chain_same t q p two l i a =
    let inside = i.inside in
    let j : Inner t q = record { after = two; inside = omega arith; used = alike_used t q p a i.used } in
    chain_node t q j ∙ ap (key_of (size t)) (alike_node t q p a) ∙ sym (chain_node t p i)

-- ---- the chains of a table

-- no place but the terminals
pub linked_begin : (t : List ℕ) (n : ℕ) → size t ≤ max_nodes → 2 * max_nodes ≤ n → Linked t (replicate n 0) 2
linked_begin t n few long =
    record {
      few = few;
      long = rw length-replicate long;
      chains = record {
        heads = λ h k.
            let zero : head_in (replicate n 0) h ≡ 0 = get_or-replicate n h 0 0 (omega arith) in
            rw zero
            (record {
              inside = λ some. absurd (some refl);
              like = λ some. absurd (some refl);
              passed = λ i after before e. let z = none i before in omega arith;
            });
        befores = λ i l k. let z = none i l in absurd (omega arith);
      };
    }
  where
    none : (i : ℕ) → i < 2 → chain_of t i ≡ size t
    none i l = chain_none t i (rw (lt-leb 2 i l))

module _ {t m : List ℕ} {p : ℕ} (l : Linked t m p) where
  -- a free place
  linked_pass : is_free t p ≡ true → Linked t m (p + 1)
  linked_pass free =
      let none = chain_none t p (rw (free, and-false)) in
      record { few = l.few; long = l.long; chains = chains_pass l.chains (omega arith) }

  module _ (i : Inner t p) {key last : ℕ} (is_key : key ≡ key_of (size t) (node_in t p)) (is_last : last ≡ get_or m key 0) where
    -- a node
    linked_add : {m' : List ℕ} → m' ≡ set (set m (max_nodes + p) last) key p → Linked t m' (p + 1)
    linked_add e =
        let few = l.few in
        let long = l.long in
        let after = i.after in
        let inside = i.inside in
        let same : key ≡ chain_of t p = is_key ∙ sym (chain_node t p i) in
        let below = chain_below t p i in
        let m₁ : List ℕ = set m (max_nodes + p) last in
        let kept : length m₁ ≡ length m = length-set m (max_nodes + p) last in
        rw e
        (record {
          few = few;
          long = rw (length-set, length-set) long;
          chains =
              chains_add l.chains (λ z. omega arith) below
              (rw (← same) (get_or-set_same m₁ key p 0 (omega arith)))
              (λ h k ne. get_or-set_other m₁ key h p 0 (λ x. ne (x ∙ same)) ∙ get_or-set_other m (max_nodes + p) h last 0 (λ x. omega arith))
              (get_or-set_other m₁ key (max_nodes + p) p 0 (λ x. omega arith) ∙ get_or-set_same m (max_nodes + p) last 0 (omega arith) ∙ is_last ∙ ap (head_in m) same)
              (λ j before. get_or-set_other m₁ key (max_nodes + j) p 0 (λ x. omega arith) ∙ get_or-set_other m (max_nodes + p) (max_nodes + j) last 0 (λ x. omega arith));
        })

-- ---- the search

-- The walk along the chain of place p stands at q, or has ended at 0: no node after q is equal.
pub record Seeking (t : List ℕ) (p q : ℕ) : Type 0 where
  pub inside : q ≢ 0 → q < p
  pub like : q ≢ 0 → chain_of t q ≡ chain_of t p
  pub passed : (i : ℕ) → q < i → i < p → 2 ≤ i → Alike t i p → ⊥

same_alike : (t : List ℕ) (q p : ℕ) → same (node_in t q) (node_in t p) ≡ true → Alike t q p
unfolding same
same_alike t q p e =
    let a = and_both (eqb (var_of t q) (var_of t p)) (eqb (low_of t q) (low_of t p) && eqb (high_of t q) (high_of t p)) e in
    let b = and_both (eqb (low_of t q) (low_of t p)) (eqb (high_of t q) (high_of t p)) a.1 in
    record {
      var = eqb-true (var_of t q) (var_of t p) a.0;
      low = eqb-true (low_of t q) (low_of t p) b.0;
      high = eqb-true (high_of t q) (high_of t p) b.1;
    }

module _ {t m : List ℕ} {p : ℕ} (l : Linked t m p) (i : Inner t p) where
  pub seek_begin : {from : ℕ} → from ≡ head_in m (chain_of t p) → Seeking t p from
  seek_begin e =
      let last = l.chains.heads (chain_of t p) (chain_below t p i) in
      rw e
      (record {
        inside = last.inside;
        like = last.like;
        passed = λ j after before two a. last.passed j after before (chain_same t j p two before i a);
      })

  module _ {q : ℕ} (s : Seeking t p q) where
    pub seek_inside : q < max_nodes
    seek_inside = by-eq q 0
        (λ z. omega arith)
        (λ some. let before = s.inside some in let inside = i.inside in let few = l.few in omega arith)

    pub seek_end : q ≡ 0 → false ≡ is_again t p
    seek_end z = sym (never_again t p (λ j before two a. s.passed j (omega arith) before two a))

    module _ (some : q ≢ 0) where
      last_before : Last (chain_of t) (chain_of t p) q (before_in m q)
      last_before =
          let like = s.like some in
          let below = chain_below t p i in
          rw (← like) (l.chains.befores q (s.inside some) (omega arith))

      pub seek_less : {x : ℕ} → x ≡ before_in m q → x < q
      seek_less {x} e = by-eq x 0
          (λ z. omega arith)
          (λ more. let k = last_before.inside (λ z. more (e ∙ z)) in omega arith)

      module _ {r : Bool} (is : r ≡ same (node_in t q) (node_in t p)) where
        pub seek_hit : r ≡ true → true ≡ is_again t p
        seek_hit hit =
            let like = s.like some in
            let below = chain_below t p i in
            sym (again_tells t p q (s.inside some) (chained_after t q (omega arith)) (same_alike t q p (sym is ∙ hit)))

        pub seek_on : r ≡ false → {x : ℕ} → x ≡ before_in m q → Seeking t p x
        seek_on miss e =
            let last = last_before in
            rw e
            (record {
              inside = λ more. let a = last.inside more in let b = s.inside some in omega arith;
              like = last.like;
              passed = λ j after before two a. elim (dec_lt j q) [
                | yes h ↦ last.passed j after h (chain_same t j p two before i a)
                | no h ↦ by-eq j q
                    (λ x. not_both r (is ∙ same_yes (node_in t q) (node_in t p) (rw x at (alike_node t j p a))) miss)
                    (λ ne. s.passed j (omega arith) before two a)
              ];
            })

-- ---- the returns

module _ {t m : List ℕ} {p : ℕ} (l : Linked t m p) where
  module _ (i : Inner t p) {r : Bool} (e : r ≡ is_again t p) where
    pub enter_new : r ≡ false → {key last : ℕ} → key ≡ key_of (size t) (node_in t p) → last ≡ get_or m key 0
        → {m' : List ℕ} → m' ≡ set (set m (max_nodes + p) last) key p → Met t p (is_again t p) m' false
    enter_new miss is_key is_last set_to = record { says = sym miss ∙ e; linked = λ _. linked_add l i is_key is_last set_to }

  pub from_key : Inner t p → {key last : ℕ} → key ≡ key_of (size t) (node_in t p) → last ≡ get_or m key 0 → last ≡ head_in m (chain_of t p)
  from_key i is_key is_last = is_last ∙ ap (head_in m) (is_key ∙ sym (chain_node t p i))

  pub meet_free : {b : Bool} → b ≡ is_free t p → b ≡ true → Met t p (not (is_free t p) && is_again t p) m false
  meet_free e hit = record { says = rw (← e, hit); linked = λ _. linked_pass l (sym e ∙ hit) }

pub inner_by : (t : List ℕ) (p : ℕ) {b : Bool} → 2 ≤ p → p < size t → b ≡ is_free t p → b ≡ false → Inner t p
inner_by t p two inside e miss = record { after = two; inside = inside; used = used_told t p (sym e ∙ miss) }

-- ---- the scan

abbrev pub is_first : List ℕ → ℕ → Bool
is_first t p = not (is_again t p)

pub again_is : (t : List ℕ) (p : ℕ) {r : Bool} → r ≡ (not (is_free t p) && is_again t p) → r ≡ (not (is_free t p) && not (is_first t p))
again_is t p e = rw (not-not (is_again t p)) e
