-- What is promised of a cut: what it holds for, how many nodes it has, and that it is reduced.
use Prim.Native.Nat.{ℕ, zero, suc, ◌+◌, ◌≤◌, ◌<◌, max}
use mathlib.Core.Path.{◌≡◌, refl, sym, ap, ◌∙◌, subst}
use mathlib.Core.Bool.{Bool, true, false, cond, not, ◌&&◌, ◌||◌}
use mathlib.Core.List.{List, [], ◌∷◌}
use native.Mathlib.Omega.{arith}
use native.Mathlib.Decide.{dec_lt}
use lib.ListN.{length}
use lib.Dec.{leb, eqb}
use borrow.Author.Tests.{le-leb, leb-true}
use Rattle.diagram.specs.Limits.{max_nodes}
use Rattle.diagram.specs.Diagram.{low_of, high_of, size, vars, root, holds, Ordered, Accepted}
use Rattle.diagram.specs.Reading.{pass}
use Rattle.diagram.specs.Valuations.{meets}
use Rattle.diagram.specs.Verdict.{any}
use Rattle.diagram.proofs.Tests.{by_test, not_both, and_both, both_and, cond-true, cond-false}
use Rattle.diagram.proofs.Reading.{layered, root_in, pass_in}
use Rattle.diagram.proofs.Meeting.{meet, meet_nil, meet_cons, meet_here, meets_is_meet}
use Rattle.store.specs.Store.{words}
use Rattle.reduction.specs.Reduce.{reduced, reduce}
use Rattle.store.proofs.Canon.{Same}
use Rattle.reduction.proofs.Count.{count, count_nodes}
use Rattle.reduction.proofs.Fewest.{Closed}
use Rattle.reduction.proofs.Canonical.{reduced_vars, reduced_accepted, reduced_holds, reduced_never, reduced_always, reduce_size, reduce_size_live}
use Rattle.approximation.specs.Constants.{false_of, true_of}
use Rattle.approximation.specs.Cut.{cut_holds, cut, send, Under, Over}
use Rattle.approximation.proofs.Send.{reduced_same, sent_to, sent_marked, sent_other, send_size, send_root, send_low, send_high, send_ordered, send_is_cut}

-- ---- counting the marked nodes

-- The non-terminals that are marked, and those that are not.
abbrev pub hits : (ℕ → Bool) → ℕ → Bool
hits m p = leb 2 p && m p

abbrev pub misses : (ℕ → Bool) → ℕ → Bool
misses m p = leb 2 p && not (m p)

split_one : (a b : Bool) (x y z : ℕ) → x + y ≡ z → cond (a && not b) (suc x) x + cond (a && b) (suc y) y ≡ cond a (suc z) z
split_one true true x y z e = omega arith
split_one true false x y z e = omega arith
split_one false b x y z e = e

count_split : (n : ℕ) (m : ℕ → Bool) → count n (misses m) + count n (hits m) ≡ count n (leb 2)
unfolding count
count_split zero m = refl
count_split (suc n) m = split_one (leb 2 n) (m n) (count n (misses m)) (count n (hits m)) (count n (leb 2)) (count_split n m)

-- ---- a marked root

module _ (w : List ℕ) (o : Ordered w) (m : ℕ → Bool) (listed-root : m (root w) ≡ true) where
  cut_constant : (t : ℕ) → Same (vars w) (cut_holds w m t) (λ bs. eqb t 1)
  unfolding cut_holds
  cut_constant t bs l = rw (meets_is_meet w o m bs l, meet_here w m 0 (root w) bs listed-root) refl

  pub cut_root_under : cut w m 0 ≡ false_of (vars w)
  unfolding cut words
  cut_root_under = reduced_never (vars w) (cut_holds w m 0) (cut_constant 0)

  pub cut_root_over : cut w m 1 ≡ true_of (vars w)
  unfolding cut words
  cut_root_over = reduced_always (vars w) (cut_holds w m 1) (cut_constant 1)

  cut_root_size : (t : ℕ) → t < 2 → size (cut w m t) ≤ 2
  cut_root_size zero h = rw cut_root_under (omega arith)
  cut_root_size (suc zero) h = rw cut_root_over (omega arith)
  cut_root_size (suc (suc t)) h = absurd (omega arith)

-- ---- a root that is not marked

module _ (w : List ℕ) (o : Ordered w) (m : ℕ → Bool) (t : ℕ) (terminal : t < 2) where
  sent_misses : (q : ℕ) → 2 ≤ sent_to m t q → misses m (sent_to m t q) ≡ true
  sent_misses q two = by_test (m q)
      (λ e. let s = sent_marked m t q e in absurd (omega arith))
      (λ e.
      let s = sent_other m t q e in
      rw s (both_and (leb 2 q) (not (m q)) (le-leb 2 q (omega arith)) (rw e refl)))

  -- A walk stays among the nodes that are not marked.
  sent_closed : Closed (send m t w) (size w) (misses m)
  sent_closed = record {
    low = λ p h l two.
        let e = send_low m t w o.formed p (leb-true 2 p (and_both (leb 2 p) (not (m p)) l).0) h in
        rw e (sent_misses (low_of w p) (omega arith));
    high = λ p h l two.
        let e = send_high m t w o.formed p (leb-true 2 p (and_both (leb 2 p) (not (m p)) l).0) h in
        rw e (sent_misses (high_of w p) (omega arith));
  }

  -- Each marked non-terminal is a node less.
  pub cut_size : m (root w) ≡ false → size (cut w m t) + count (size w) (hits m) ≤ size w
  cut_size free =
      let n = send_size m t w in
      let r = send_root m t w in
      let ordered = send_ordered w o m t terminal in
      let is = ap (λ (x : List ℕ). size x) (send_is_cut w o m t terminal free) in
      let most = reduce_size (send m t w) ordered in
      let live = reduce_size_live (send m t w) ordered (misses m)
      (subst (λ (k : ℕ). Closed (send m t w) k (misses m)) (sym n) sent_closed)
      (λ two. rw r (both_and (leb 2 (root w)) (not (m (root w))) (le-leb 2 (root w) (omega arith)) (rw free refl))) in
      let lives = ap (λ (k : ℕ). count k (misses m)) n in
      let split = count_split (size w) m in
      let nodes = count_nodes (size w) in
      elim (dec_lt 2 (size w)) [ yes many ↦ omega arith | no few ↦ omega arith ]

  -- Also the root, where it is no terminal.
  pub cut_smaller : (m (root w) ≡ true → 2 ≤ root w) → size (cut w m t) + count (size w) (hits m) ≤ size w
  cut_smaller node = by_test (m (root w))
      (λ e.
      let two = node e in
      let s = cut_root_size w o m e t terminal in
      let split = count_split (size w) m in
      let nodes = count_nodes (size w) in
      omega arith)
      cut_size

  pub cut_most : size (cut w m t) ≤ max (size w) 2
  cut_most = by_test (m (root w))
      (λ e. let s = cut_root_size w o m e t terminal in omega arith)
      (λ e. let s = cut_size e in omega arith)

  cut_few : size (reduced (vars w) (cut_holds w m t)) ≤ max_nodes
  unfolding cut
  cut_few = let s = cut_most in let few = o.formed.few in omega arith

  -- ---- demand 2

  pub cut_vars : vars (cut w m t) ≡ vars w
  unfolding cut
  cut_vars = reduced_vars (vars w) (cut_holds w m t)

  pub cut_accepted : Accepted (cut w m t)
  unfolding cut
  cut_accepted = reduced_accepted (vars w) (cut_holds w m t) o.formed.variables cut_few

  cut_function : Same (vars w) (holds (cut w m t)) (cut_holds w m t)
  unfolding cut
  cut_function = reduced_holds (vars w) (cut_holds w m t) o.formed.variables cut_few

  pub cut_holds_lem : (bs : List Bool) → length bs ≡ vars w → holds (cut w m t) bs ≡ cond (meets w bs m) (eqb t 1) (holds w bs)
  unfolding cut_holds
  cut_holds_lem bs l = cut_function bs l

  -- It is reduced: reducing it changes no word.
  cut_again : reduced (vars w) (holds (cut w m t)) ≡ cut w m t
  unfolding cut
  cut_again = reduced_same (vars w) (holds (cut w m t)) (cut_holds w m t) cut_function

  pub cut_reduced : reduce (cut w m t) ≡ cut w m t
  unfolding reduce
  cut_reduced = ap (λ (v : ℕ). reduced v (holds (cut w m t))) cut_vars ∙ cut_again

-- An underapproximation by any marks holds only where the input does, an overapproximation wherever it does.
pub cut_under : (w : List ℕ) → Ordered w → (m : ℕ → Bool) → Under w (cut w m 0)
cut_under w o m = record {
  accepted = cut_accepted w o m 0 (omega arith);
  variables = cut_vars w o m 0 (omega arith);
  implies = λ bs l h.
      let e = sym (cut_holds_lem w o m 0 (omega arith) bs l) ∙ h in
      by_test (meets w bs m)
      (λ met. absurd (not_both false (sym (cond-true (meets w bs m) false (holds w bs) met) ∙ e) refl))
      (λ free. sym (cond-false (meets w bs m) false (holds w bs) free) ∙ e);
}

pub cut_over : (w : List ℕ) → Ordered w → (m : ℕ → Bool) → Over w (cut w m 1)
cut_over w o m = record {
  accepted = cut_accepted w o m 1 (omega arith);
  variables = cut_vars w o m 1 (omega arith);
  implied = λ bs l h.
      cut_holds_lem w o m 1 (omega arith) bs l
      ∙ by_test (meets w bs m)
      (λ met. cond-true (meets w bs m) true (holds w bs) met)
      (λ free. cond-false (meets w bs m) true (holds w bs) free ∙ h);
}

-- ---- only the nodes that are marked count

meet_same : (w : List ℕ) → Ordered w → (m l : ℕ → Bool) → ((q : ℕ) → q < size w → m q ≡ l q) → (bs : List Bool) (i p : ℕ) → p < size w
    → meet w m i p bs ≡ meet w l i p bs
meet_same w o m l s [] i p h = rw (meet_nil w m i p, meet_nil w l i p) (s p h)
meet_same w o m l s (b ∷ bs) i p h =
    rw (meet_cons w m i p b bs, meet_cons w l i p b bs, s p h)
    (ap (λ (x : Bool). l p || x) (meet_same w o m l s bs (suc i) (pass w i p b) (pass_in w (vars w) (size w) (layered w o) i p b h)))

pub cut_same : (w : List ℕ) → Ordered w → (m l : ℕ → Bool) (t : ℕ) → ((q : ℕ) → q < size w → m q ≡ l q) → cut w m t ≡ cut w l t
unfolding cut cut_holds
cut_same w o m l t s = reduced_same (vars w) (cut_holds w m t) (cut_holds w l t) (λ bs e.
    let same : meets w bs m ≡ meets w bs l = meets_is_meet w o m bs e ∙ meet_same w o m l s bs 0 (root w) (root_in w o) ∙ sym (meets_is_meet w o l bs e) in
    ap (λ (x : Bool). cond x (eqb t 1) (holds w bs)) same)

-- Nothing marked: the cut is the reduced diagram.
any_none : (n : ℕ) → any n (λ k. false) ≡ false
unfolding any
any_none zero = refl
any_none (suc n) = rw (any_none n) refl

pub cut_none : (w : List ℕ) (t : ℕ) → cut w (λ q. false) t ≡ reduce w
unfolding cut cut_holds reduce meets
cut_none w t = reduced_same (vars w) (cut_holds w (λ q. false) t) (holds w) (λ bs e.
    ap (λ (x : Bool). cond x (eqb t 1) (holds w bs)) (any_none (suc (vars w))))
