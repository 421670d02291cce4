-- Look-up by chains: for any key of a node, the walk from the key's last node to earlier ones with the same key gives what
-- `find` gives.
use Prim.Native.Nat.{ℕ, zero, suc, ◌≤◌, ◌<◌}
use mathlib.Core.Path.{◌≡◌, refl, sym, ap, ◌∙◌}
use mathlib.Core.Logic.{◌≢◌}
use mathlib.Core.Bool.{and-false}
use mathlib.Core.List.{List, [], ◌∷◌, ◌++◌}
use native.Mathlib.Omega.{arith}
use native.Mathlib.Decide.{ℕ_discrete, dec_lt}
use lib.ListN.{length}
use borrow.Author.Tests.{le-leb, lt-leb, eq-eqb, ne_eqb}
use Rattle.diagram.proofs.Reading.{by_two}
use Rattle.store.specs.Store.{Node, find, terminals}
use Rattle.store.specs.Build.{at, Sound, prev, Chains, Seek}
use Rattle.store.proofs.Store.{find_most, find_at, Extends, extends_add, extends_at, length_add, at_new}
use Rattle.store.proofs.Sound.{terminal_at}

module _ (key : Node → ℕ) where
  -- ---- the last place with a key

  prev_zero : (o : List Node) (h : ℕ) → prev key o h zero ≡ 0
  unfolding prev
  prev_zero o h = refl

  prev_hit : (o : List Node) (h n : ℕ) → 2 ≤ n → key (at o n) ≡ h → prev key o h (suc n) ≡ n
  unfolding prev
  prev_hit o h n two e = simp (le-leb 2 n two, eq-eqb (key (at o n)) h e)

  prev_other : (o : List Node) (h n : ℕ) → key (at o n) ≢ h → prev key o h (suc n) ≡ prev key o h n
  unfolding prev
  prev_other o h n ne = simp (ne_eqb (key (at o n)) h ne, and-false)

  prev_early : (o : List Node) (h n : ℕ) → n < 2 → prev key o h (suc n) ≡ prev key o h n
  unfolding prev
  prev_early o h n t = simp (lt-leb 2 n t)

  -- One place more: it has the key, or it doesn't count.
  by_prev : (P : ℕ → Type 0) (o : List Node) (h n : ℕ) → (2 ≤ n → key (at o n) ≡ h → P n) → ((2 ≤ n → key (at o n) ≢ h) → P (prev key o h n))
      → P (prev key o h (suc n))
  by_prev P o h n hit miss = by_two n
      (λ t. rw (prev_early o h n t) (miss (λ two. absurd (omega arith))))
      (λ two. elim (ℕ_discrete (key (at o n)) h) [
        | yes e ↦ rw (prev_hit o h n two e) (hit two e)
        | no ne ↦ rw (prev_other o h n ne) (miss (λ x. ne))
      ])

  prev_most : (o : List Node) (h n : ℕ) → prev key o h n ≤ n
  prev_most o h zero = let e = prev_zero o h in omega arith
  prev_most o h (suc n) = by_prev (λ q. q ≤ suc n) o h n (λ two e. omega arith) (λ m. let rest = prev_most o h n in omega arith)

  prev_lt : (o : List Node) (h n : ℕ) → 0 < n → prev key o h n < n
  prev_lt o h zero some = absurd (omega arith)
  prev_lt o h (suc n) some = by_prev (λ q. q < suc n) o h n (λ two e. omega arith) (λ m. let rest = prev_most o h n in omega arith)

  prev_two : (o : List Node) (h n : ℕ) → prev key o h n ≢ 0 → 2 ≤ prev key o h n
  prev_two o h zero = λ ne. absurd (ne (prev_zero o h))
  prev_two o h (suc n) = by_prev (λ q. q ≢ 0 → 2 ≤ q) o h n (λ two e ne. two) (λ m. prev_two o h n)

  prev_key : (o : List Node) (h n : ℕ) → prev key o h n ≢ 0 → key (at o (prev key o h n)) ≡ h
  prev_key o h zero = λ ne. absurd (ne (prev_zero o h))
  prev_key o h (suc n) = by_prev (λ q. q ≢ 0 → key (at o q) ≡ h) o h n (λ two e ne. e) (λ m. prev_key o h n)

  -- What lies between has another key.
  prev_passed : (o : List Node) (h n r : ℕ) → prev key o h n < r → 2 ≤ r → r < n → key (at o r) ≢ h
  prev_passed o h zero r = λ after two before. absurd (omega arith)
  prev_passed o h (suc n) r = by_prev (λ q. q < r → 2 ≤ r → r < suc n → key (at o r) ≢ h) o h n
      (λ two-n e after two before. absurd (omega arith))
      (λ miss after two before. elim (ℕ_discrete r n) [
        | yes same ↦ rw same (miss (omega arith))
        | no ne ↦ prev_passed o h n r after two (omega arith)
      ])

  prev_grown : {o o' : List Node} → Extends o o' → (h n : ℕ) → n ≤ length o → prev key o' h n ≡ prev key o h n
  prev_grown {o} {o'} x h zero fits = prev_zero o' h ∙ sym (prev_zero o h)
  prev_grown {o} {o'} x h (suc n) fits =
      let same : at o' n ≡ at o n = extends_at x n fits in
      let rest = prev_grown x h n (omega arith) in
      by_prev (λ q. prev key o' h (suc n) ≡ q) o h n
      (λ two e. prev_hit o' h n two (ap key same ∙ e))
      (λ miss. by_two n
      (λ t. prev_early o' h n t ∙ rest)
      (λ two. prev_other o' h n (λ e. miss two (sym (ap key same) ∙ e)) ∙ rest))

  -- ---- chains

  -- No node but the terminals: every chain is empty.
  pub chains_start : (v keys : ℕ) (head next : ℕ → ℕ) → ((h : ℕ) → h < keys → head h ≡ 0) → Chains key keys (terminals v) head next
  chains_start v keys head next empty = record {
    heads = λ h k. empty h k ∙ sym (none h);
    nexts = λ q two h. absurd (omega arith);
  }
    where
      none : (h : ℕ) → prev key (terminals v) h 2 ≡ 0
      none h = prev_early (terminals v) h 1 (omega arith) ∙ prev_early (terminals v) h 0 (omega arith) ∙ prev_zero (terminals v) h

  -- Stores elsewhere leave them as they are.
  pub chains_same : (keys : ℕ) (o : List Node) (head next head' next' : ℕ → ℕ) → Chains key keys o head next
      → ((h : ℕ) → h < keys → head' h ≡ head h) → ((q : ℕ) → 2 ≤ q → q < length o → next' q ≡ next q) → Chains key keys o head' next'
  chains_same keys o head next head' next' c heads nexts = record {
    heads = λ h k. heads h k ∙ c.heads h k;
    nexts = λ q two h. nexts q two h ∙ c.nexts q two h;
  }

  -- A new node becomes its key's head, and what was the head comes after it.
  pub chains_add : (keys : ℕ) (o : List Node) (head next head' next' : ℕ → ℕ) (n : Node) → Chains key keys o head next
      → 2 ≤ length o → key n < keys
      → head' (key n) ≡ length o → ((h : ℕ) → h < keys → h ≢ key n → head' h ≡ head h)
      → next' (length o) ≡ head (key n) → ((q : ℕ) → 2 ≤ q → q < length o → next' q ≡ next q)
      → Chains key keys (o ++ (n ∷ [])) head' next'
  chains_add keys o head next head' next' n c two in-keys new-head old-heads new-next old-nexts =
      let longer : List Node = o ++ (n ∷ []) in
      let x : Extends o longer = extends_add o n in
      let more : length longer ≡ suc (length o) = length_add o n in
      record {
        heads = λ h k. rw more (elim (ℕ_discrete h (key n)) [
          | yes e ↦ rw (prev_hit longer h (length o) two (ap key (at_new o n) ∙ sym e), e) new-head
          | no ne ↦
              let miss : key (at longer (length o)) ≢ h = λ e. ne (sym e ∙ ap key (at_new o n)) in
              rw (prev_other longer h (length o) miss, prev_grown x h (length o) (omega arith)) (old-heads h k ne ∙ c.heads h k)
        ]);
        nexts = λ q two-q in-longer. elim (dec_lt q (length o)) [
          | yes old ↦ rw (extends_at x q old, prev_grown x (key (at o q)) q (omega arith)) (old-nexts q two-q old ∙ c.nexts q two-q old)
          | no fresh ↦
              let here : q ≡ length o = omega arith in
              rw (here, at_new o n, prev_grown x (key n) (length o) (omega arith)) (new-next ∙ c.heads (key n) in-keys)
        ];
      }

  -- ---- the walk

  -- From any place on: the last node before m with the key, if node n is at none from m on.
  seek_prev : (o : List Node) (n : Node) (m : ℕ) → 0 < m → m ≤ length o → ((r : ℕ) → m ≤ r → 2 ≤ r → r < length o → at o r ≢ n)
      → Seek key o n (prev key o (key n) m)
  seek_prev o n m some fits later = record {
    two = prev_two o (key n) m;
    inside = let h = prev_lt o (key n) m some in omega arith;
    like = prev_key o (key n) m;
    passed = λ r after two in-o. elim (dec_lt r m) [
      | yes before ↦ λ e. prev_passed o (key n) m r after two before (ap key e)
      | no from ↦ later r (omega arith) two in-o
    ];
  }

  pub seek_start : (keys : ℕ) (o : List Node) (head next : ℕ → ℕ) (n : Node) → Chains key keys o head next → 0 < length o → key n < keys
      → Seek key o n (head (key n))
  seek_start keys o head next n c some in-keys =
      rw (c.heads (key n) in-keys) (seek_prev o n (length o) some (omega arith) (λ r from two in-o. absurd (omega arith)))

  pub seek_next : (keys : ℕ) (o : List Node) (head next : ℕ → ℕ) (n : Node) (q : ℕ) → Chains key keys o head next → Seek key o n q → q ≢ 0 → at o q ≢ n
      → Seek key o n (next q)
  seek_next keys o head next n q c s ne other =
      let two = s.two ne in
      let fits = s.inside in
      rw (c.nexts q two fits, s.like ne) (seek_prev o n q (omega arith) (omega arith) (λ r from two-r in-o. elim (ℕ_discrete r q) [
        | yes e ↦ rw e other
        | no after ↦ s.passed r (omega arith) two-r in-o
      ]))

  pub seek_falls : (keys : ℕ) (o : List Node) (head next : ℕ → ℕ) (n : Node) (q : ℕ) → Chains key keys o head next → Seek key o n q → q ≢ 0 → next q < q
  seek_falls keys o head next n q c s ne =
      let two = s.two ne in
      rw (c.nexts q two s.inside) (prev_lt o (key (at o q)) q (omega arith))

  -- At the chain's end the node isn't there; where its words are met it is.
  pub seek_missing : (v : ℕ) (o : List Node) (n : Node) → Sound v o → n.var < v → Seek key o n 0 → find n o ≡ length o
  seek_missing v o n s below k =
      let most = find_most n o in
      elim (dec_lt (find n o) (length o)) [
        | yes there ↦
            let e = find_at n o there in
            by_two (find n o)
            (λ t. let var = ap (λ (m : Node). m.var) (sym (terminal_at v o s (find n o) t) ∙ e) in absurd (omega arith))
            (λ two. absurd (k.passed (find n o) (omega arith) two there e))
        | no absent ↦ omega arith
      ]

  pub seek_found : (v : ℕ) (o : List Node) (n : Node) (q : ℕ) → Sound v o → Seek key o n q → q ≢ 0 → at o q ≡ n → find n o ≡ q
  seek_found v o n q s k ne e = rw (← e) (s.each q (k.two ne) k.inside).once
