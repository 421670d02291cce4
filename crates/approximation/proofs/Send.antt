-- Cutting is sending the links to marked nodes to a terminal, and reducing (`send_is_cut`); what is promised of a cut.
use Prim.Native.Nat.{ℕ, suc, ◌≤◌, ◌<◌}
use mathlib.Core.Path.{◌≡◌, refl, sym, ap, ◌∙◌}
use mathlib.Core.Bool.{Bool, true, false, cond, and-false}
use mathlib.Core.List.{List, [], ◌∷◌}
use native.Mathlib.Omega.{arith}
use lib.ListN.{length}
use lib.Dec.{eqb}
use borrow.Author.Tests.{ne_eqb}
use Rattle.diagram.specs.Diagram.{var_of, low_of, high_of, size, vars, root, holds, Formed, Ordered}
use Rattle.diagram.specs.Reading.{tests, pass, eval}
use Rattle.diagram.proofs.Tests.{by_test, by-eq}
use Rattle.diagram.proofs.Reading.{layered, by_two, root_in, pass_tests, pass_ends, child_in_lem, eval_nil, eval_cons, eval_ends, var_most, holds_is_eval}
use Rattle.diagram.proofs.Meeting.{meet, meet_nil, meet_cons, meet_here, meets_is_meet}
use Rattle.store.specs.Store.{node, terminals}
use Rattle.reduction.specs.Reduce.{reduced, reduce}
use Rattle.store.proofs.Canon.{Same, canon_cong}
use Rattle.approximation.specs.Cut.{cut_holds, cut, send}
use Rattle.approximation.proofs.Relink.{relinked_size, relinked_length, relinked_root, relinked_var, relinked_low, relinked_high, relinked_ordered}

-- Only the function's values count.
pub reduced_same : (v : ℕ) (f g : List Bool → Bool) → Same v f g → reduced v f ≡ reduced v g
unfolding reduced
reduced_same v f g s = rw (canon_cong v 0 f g s (terminals v)) refl

-- A variable that p does not test.
pass_stays : (w : List ℕ) (i p : ℕ) (b : Bool) → (var_of w p ≡ i → ⊥) → pass w i p b ≡ p
unfolding pass tests
pass_stays w i p b ne = simp (ne_eqb (var_of w p) i ne, and-false)

abbrev pub sent_to : (ℕ → Bool) → ℕ → ℕ → ℕ
sent_to m t q = cond (m q) t q

pub sent_marked : (m : ℕ → Bool) (t q : ℕ) → m q ≡ true → sent_to m t q ≡ t
sent_marked m t q e = rw e refl

pub sent_other : (m : ℕ → Bool) (t q : ℕ) → m q ≡ false → sent_to m t q ≡ q
sent_other m t q e = rw e refl

-- ---- the array with sent links: the same nodes, whose links are read through the marks

module _ (m : ℕ → Bool) (t : ℕ) (w : List ℕ) where
  pub send_length : length (send m t w) ≡ length w
  send_length = relinked_length (sent_to m t) w

  pub send_size : size (send m t w) ≡ size w
  send_size = relinked_size (sent_to m t) w

  pub send_root : root (send m t w) ≡ root w
  send_root = relinked_root (sent_to m t) w

  pub send_var : (p : ℕ) → var_of (send m t w) p ≡ var_of w p
  send_var = relinked_var (sent_to m t) w

  pub send_low : Formed w → (p : ℕ) → 2 ≤ p → p < size w → low_of (send m t w) p ≡ cond (m (low_of w p)) t (low_of w p)
  send_low f p two h = let whole = f.whole in relinked_low (sent_to m t) w p two (omega arith)

  pub send_high : Formed w → (p : ℕ) → 2 ≤ p → p < size w → high_of (send m t w) p ≡ cond (m (high_of w p)) t (high_of w p)
  send_high f p two h = let whole = f.whole in relinked_high (sent_to m t) w p two (omega arith)

-- ---- cutting as sending links

module _ (w : List ℕ) (o : Ordered w) (m : ℕ → Bool) (t : ℕ) (terminal : t < 2) where
  -- A terminal stands at the largest variable.
  sent_lowers : 2 < size w → (q : ℕ) → q < size w → (sent_to m t q < size w) × (var_of w q ≤ var_of w (sent_to m t q))
  sent_lowers many q h = by_test (m q)
      (λ e.
      let var = (layered w o).terminal t terminal (omega arith) in
      let most = var_most w (vars w) (size w) (layered w o) q h in
      rw (sent_marked m t q e) (omega arith, omega arith))
      (λ e. rw (sent_other m t q e) (h, omega arith))

  pub send_ordered : Ordered (send m t w)
  send_ordered = relinked_ordered (sent_to m t) w o sent_lowers

  -- A variable that p tests, in the array with sent links.
  pass_sent : (i p : ℕ) (b : Bool) → p < size w → 2 ≤ p → var_of w p ≡ i
      → pass (send m t w) i p b ≡ sent_to m t (cond b (high_of w p) (low_of w p))
  pass_sent i p true h two e = pass_tests (send m t w) i p true two (send_var m t w p ∙ e) ∙ send_high m t w o.formed p two h
  pass_sent i p false h two e = pass_tests (send m t w) i p false two (send_var m t w p ∙ e) ∙ send_low m t w o.formed p two h

  -- Read level by level: where the path meets a marked node the terminal, else what the diagram says.
  abbrev Cuts : ℕ → ℕ → List Bool → Type 0
  Cuts i p bs = eval (send m t w) i p bs ≡ cond (meet w m i p bs) (eqb t 1) (eval w i p bs)

  sent_child : (bs : List Bool) (i c : ℕ) → (m c ≡ false → Cuts i c bs)
      → eval (send m t w) i (sent_to m t c) bs ≡ cond (meet w m i c bs) (eqb t 1) (eval w i c bs)
  sent_child bs i c on = by_test (m c)
      (λ e. rw (sent_marked m t c e, eval_ends (send m t w) i t bs terminal, meet_here w m i c bs e) refl)
      (λ e. rw (sent_other m t c e) (on e))

  eval_sent : (bs : List Bool) (i p : ℕ) → p < size w → m p ≡ false → Cuts i p bs
  eval_sent [] i p h e = rw (eval_nil (send m t w) i p, eval_nil w i p, meet_nil w m i p, e) refl
  eval_sent (b ∷ bs) i p h e =
      rw (eval_cons (send m t w) i p b bs, eval_cons w i p b bs, meet_cons w m i p b bs, e)
      (by_two p
      (λ end. rw (pass_ends (send m t w) i p b end, pass_ends w i p b end) (eval_sent bs (suc i) p h e))
      (λ two. by-eq (var_of w p) i
      (λ here.
      let c = cond b (high_of w p) (low_of w p) in
      let inside = child_in_lem w (vars w) (size w) p ((layered w o).node p two h) b in
      rw (pass_sent i p b h two here, pass_tests w i p b two here) (sent_child bs (suc i) c (eval_sent bs (suc i) c inside)))
      (λ there.
      rw (pass_stays (send m t w) i p b (λ x. there (sym (send_var m t w p) ∙ x)), pass_stays w i p b there)
      (eval_sent bs (suc i) p h e))))

  module _ (free : m (root w) ≡ false) where
    send_holds : Same (vars w) (holds (send m t w)) (cut_holds w m t)
    unfolding cut_holds
    send_holds bs l =
        holds_is_eval (send m t w) send_ordered bs (l ∙ sym (send_var m t w 0))
        ∙ ap (λ (r : ℕ). eval (send m t w) 0 r bs) (send_root m t w)
        ∙ eval_sent bs 0 (root w) (root_in w o) free
        ∙ rw (meets_is_meet w o m bs l, holds_is_eval w o bs l) refl

    pub send_is_cut : reduce (send m t w) ≡ cut w m t
    unfolding reduce cut
    send_is_cut =
        ap (λ (v : ℕ). reduced v (holds (send m t w))) (send_var m t w 0)
        ∙ reduced_same (vars w) (holds (send m t w)) (cut_holds w m t) send_holds
