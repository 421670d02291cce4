-- Chains of places by buckets, for any numbering of places: what one more place does, and the walk along a chain.
use Prim.Native.Nat.{ℕ, suc, ◌-◌, ◌≤◌, ◌<◌}
use mathlib.Core.Path.{◌≡◌, refl, sym, ap, ◌∙◌}
use mathlib.Core.Logic.{◌≢◌}
use native.Mathlib.Omega.{arith}
use native.Mathlib.Decide.{dec_lt}
use Rattle.diagram.proofs.Tests.{by-eq}
use Rattle.pairs.specs.Table.{Last, Chains, Seeking}

-- ---- one place more

module _ {bucket bucket' : ℕ → ℕ} {n : ℕ} (same : (i : ℕ) → i < n → bucket' i ≡ bucket i) where
  -- what is last below m of the first n places, where these keep their buckets
  last_kept : {h m x : ℕ} → m ≤ n → Last bucket h m x → Last bucket' h m x
  last_kept {h} {m} {x} fits l = record {
    inside = l.inside;
    like = λ some. let in-m = l.inside in same (x - 1) (omega arith) ∙ l.like some;
    passed = λ i from to e. l.passed i from to (sym (same i (omega arith)) ∙ e);
  }

  -- a place of another bucket
  last_other : {h x : ℕ} → Last bucket h n x → bucket' n ≢ h → Last bucket' h (suc n) x
  last_other {h} {x} l ne = record {
    inside = let in-n = l.inside in omega arith;
    like = (last_kept (omega arith) l).like;
    passed = λ i from to. by-eq i n
        (λ e. rw e ne)
        (λ o. (last_kept (omega arith) l).passed i from (omega arith));
  }

  module _ {c : ℕ} {head head' before before' : ℕ → ℕ} (chains : Chains bucket c n head before)
      (new-head : head' (bucket' n) ≡ suc n) (old-heads : (h : ℕ) → h < c → h ≢ bucket' n → head' h ≡ head h)
      (in_c : bucket' n < c) (new-before : before' n ≡ head (bucket' n)) (old-befores : (i : ℕ) → i < n → before' i ≡ before i) where
    last_new : Last bucket' (bucket' n) (suc n) (suc n)
    last_new = record { inside = omega arith; like = λ some. let e : suc n - 1 ≡ n = omega arith in ap bucket' e; passed = λ i from to. absurd (omega arith) }

    pub chains_add : Chains bucket' c (suc n) head' before'
    chains_add = record {
      heads = λ h k. by-eq h (bucket' n)
          (λ e. rw (e, new-head) last_new)
          (λ ne. rw (old-heads h k ne) (last_other (chains.heads h k) (λ e. ne (sym e))));
      befores = λ i l. by-eq i n
          (λ e. rw (e, new-before) (last_kept (omega arith) (chains.heads (bucket' n) in_c)))
          (λ ne. rw (old-befores i (omega arith), same i (omega arith)) (last_kept (omega arith) (chains.befores i (omega arith))));
    }

-- no place at all
pub chains_none : {bucket : ℕ → ℕ} {c : ℕ} {head before : ℕ → ℕ} → ((h : ℕ) → h < c → head h ≡ 0) → Chains bucket c 0 head before
chains_none empty = record {
  heads = λ h k. rw (empty h k) (record { inside = omega arith; like = λ some. absurd (some refl); passed = λ i from to. absurd (omega arith) });
  befores = λ i l. absurd (omega arith);
}

-- ---- the search

module _ (key mix : ℕ → ℕ) {c n : ℕ} {head before : ℕ → ℕ} (chains : Chains (λ i. mix (key i)) c n head before) {k : ℕ} where
  pub seek_begins : mix k < c → Seeking key (λ i. mix (key i)) (mix k) n k (head (mix k))
  seek_begins in_c =
      let l = chains.heads (mix k) in_c in
      record { inside = l.inside; like = l.like; passed = λ i from to e. l.passed i from to (ap mix e) }

  module _ {x : ℕ} (s : Seeking key (λ i. mix (key i)) (mix k) n k x) (some : x ≢ 0) where
    last_before : Last (λ i. mix (key i)) (mix k) (x - 1) (before (x - 1))
    last_before = let in-n = s.inside in rw (← (s.like some)) (chains.befores (x - 1) (omega arith))

    pub seek_falls : before (x - 1) < x
    seek_falls = let in-x = last_before.inside in omega arith

    pub seek_goes : key (x - 1) ≢ k → Seeking key (λ i. mix (key i)) (mix k) n k (before (x - 1))
    seek_goes other =
        let in-x = last_before.inside in
        let in-n = s.inside in
        record {
          inside = omega arith;
          like = last_before.like;
          passed = λ i from to. elim (dec_lt i (x - 1)) [
            | yes l ↦ λ e. last_before.passed i from l (ap mix e)
            | no l ↦ by-eq i (x - 1) (λ e. rw e other) (λ o. s.passed i (omega arith) to)
          ];
        }
