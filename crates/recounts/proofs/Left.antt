-- What is left at a node when some are taken away: from its children, and at the root the count of the cut.
use Prim.Native.Nat.{ℕ, ◌+◌, ◌-◌, ◌*◌, ◌^◌, ◌%◌, ◌≤◌, ◌<◌}
use mathlib.Core.Path.{◌≡◌, refl, sym, ap, ◌∙◌}
use mathlib.Core.Bool.{Bool, true, false, cond, ◌||◌}
use mathlib.Core.List.{List}
use native.Mathlib.Omega.{arith}
use native.Mathlib.Nat.{zero-mul}
use lib.ListN.{length, get_or}
use lib.Seq.{ext_get_or}
use lib.Dec.{ltb, eqb}
use Rattle.naturals.specs.Natural.{limit}
use Rattle.diagram.specs.Diagram.{var_of, low_of, high_of, size, vars, root, holds, Ordered}
use Rattle.diagram.specs.Valuations.{tally, count_of}
use Rattle.diagram.proofs.Tests.{by_test}
use Rattle.diagram.proofs.Tally.{tally_same}
use Rattle.reduction.specs.Reduce.{reduce}
use Rattle.reduction.proofs.Canonical.{reduce_vars, reduce_holds}
use Rattle.counts.specs.Table.{scaled}
use Rattle.counts.specs.Worth.{worth_of, doublings, part_of}
use Rattle.counts.proofs.Nodes.{worth_end, worth_node, worth_most, total_valuations, total_fits, under_limit}
use Rattle.approximation.specs.Links.{relinked}
use Rattle.approximation.specs.Cut.{cut, send}
use Rattle.approximation.proofs.Send.{send_length, send_size, send_root, send_var, send_low, send_high, send_ordered, send_is_cut}
use Rattle.approximation.proofs.Relink.{table_at}
use Rattle.approximation.proofs.Cut.{cut_root_under}
use Rattle.approximation.proofs.Search.{false_count}
use Rattle.recounts.specs.Kept.{left_of}

-- Reducing keeps the count.
reduce_count : (w : List ℕ) → Ordered w → count_of (reduce w) ≡ count_of w
reduce_count w o =
    ap (λ (v : ℕ). tally v (holds (reduce w))) (reduce_vars w o)
    ∙ tally_same (vars w) (holds (reduce w)) (holds w) (λ bs l. reduce_holds w o bs l)

pub part_is : (w : List ℕ) (p q x : ℕ) → part_of true w p q x ≡ scaled w p q x
unfolding doublings
part_is w p q x = refl

module _ (w : List ℕ) (m : ℕ → Bool) where
  pub left_taken : (p : ℕ) → m p ≡ true → left_of w m p ≡ 0
  unfolding left_of
  left_taken p e = rw e refl

  left_free : (p : ℕ) → m p ≡ false → left_of w m p ≡ worth_of true (send m 0 w) p
  unfolding left_of
  left_free p e = rw e refl

  -- where a node is taken nothing is left in any case
  pub left_cond : (p : ℕ) → cond (m p) 0 (left_of w m p) ≡ left_of w m p
  left_cond p = by_test (m p) (λ e. rw e (sym (left_taken p e))) (λ e. rw e refl)

  scaled_sent : (p q x : ℕ) → scaled (send m 0 w) p q x ≡ scaled w p q x
  scaled_sent p q x = rw (send_var m 0 w p, send_var m 0 w q) refl

module _ (w : List ℕ) (o : Ordered w) (m : ℕ → Bool) where
  abbrev sent : List ℕ
  sent = send m 0 w

  sent_ordered : Ordered sent
  sent_ordered = send_ordered w o m 0 (omega arith)

  sent_in : (p : ℕ) → p < size w → p < size sent
  sent_in p h = let e = send_size m 0 w in omega arith

  pub left_end : (p : ℕ) → p < 2 → p < size w → m p ≡ false → left_of w m p ≡ p
  left_end p t h e = left_free w m p e ∙ worth_end sent sent_ordered true p t (sent_in p h)

  -- a link to a taken node goes to node 0, where nothing is left either
  link_part : (p q : ℕ) → q < size w → part_of true sent p (cond (m q) 0 q) (worth_of true sent (cond (m q) 0 q)) ≡ scaled w p q (left_of w m q)
  link_part p q h = by_test (m q)
      (λ e.
      let none : worth_of true sent 0 ≡ 0 = worth_end sent sent_ordered true 0 (omega arith) (sent_in 0 (omega arith)) in
      rw (e, left_taken w m q e, none) (part_is sent p 0 0 ∙ zero-mul (2 ^ (var_of sent 0 - var_of sent p - 1)) ∙ sym (zero-mul (2 ^ (var_of w q - var_of w p - 1)))))
      (λ e. rw (e, left_free w m q e) (part_is sent p q (worth_of true sent q) ∙ scaled_sent w m p q (worth_of true sent q)))

  pub left_node : (p : ℕ) → 2 ≤ p → p < size w → low_of w p < size w → high_of w p < size w → m p ≡ false
      → left_of w m p ≡ scaled w p (low_of w p) (left_of w m (low_of w p)) + scaled w p (high_of w p) (left_of w m (high_of w p))
  left_node p two h low high e =
      left_free w m p e
      ∙ worth_node sent sent_ordered true p two (sent_in p h)
      ∙ ap (λ (q : ℕ). part_of true sent p q (worth_of true sent q) + part_of true sent p (high_of sent p) (worth_of true sent (high_of sent p))) (send_low m 0 w o.formed p two h)
      ∙ ap (λ (q : ℕ). part_of true sent p (cond (m (low_of w p)) 0 (low_of w p)) (worth_of true sent (cond (m (low_of w p)) 0 (low_of w p))) + part_of true sent p q (worth_of true sent q)) (send_high m 0 w o.formed p two h)
      ∙ ap (λ (x : ℕ). x + part_of true sent p (cond (m (high_of w p)) 0 (high_of w p)) (worth_of true sent (cond (m (high_of w p)) 0 (high_of w p)))) (link_part p (low_of w p) low)
      ∙ ap (λ (x : ℕ). scaled w p (low_of w p) (left_of w m (low_of w p)) + x) (link_part p (high_of w p) high)

  none_fits : 0 < limit
  none_fits = under_limit 0 0 (omega arith) (omega arith)

  pub left_most : (p : ℕ) → left_of w m p ≤ 2 ^ (vars w - var_of w p)
  left_most p = by_test (m p)
      (λ e. rw (left_taken w m p e) (omega arith))
      (λ e. rw (left_free w m p e, ← send_var m 0 w p, ← send_var m 0 w 0) (worth_most sent sent_ordered true p))

  whole : worth_of true sent (root w) * 2 ^ var_of w (root w) ≡ count_of sent
  unfolding doublings
  whole =
      ap (λ (i : ℕ). worth_of true sent (root w) * 2 ^ i) (sym (send_var m 0 w (root w)))
      ∙ ap (λ (r : ℕ). worth_of true sent r * 2 ^ var_of sent r) (sym (send_root m 0 w))
      ∙ total_valuations sent sent_ordered

  pub left_total_fits : left_of w m (root w) * 2 ^ var_of w (root w) < limit
  left_total_fits = by_test (m (root w))
      (λ e. rw (left_taken w m (root w) e, zero-mul (2 ^ var_of w (root w))) none_fits)
      (λ e.
      let is = whole ∙ sym (total_valuations sent sent_ordered) in
      rw (left_free w m (root w) e, is) (total_fits sent sent_ordered true))

  -- at the root, doubled for the variables above it
  pub left_total : left_of w m (root w) * 2 ^ var_of w (root w) ≡ count_of (cut w m 0)
  left_total = by_test (m (root w))
      (λ e.
      rw (left_taken w m (root w) e)
      (zero-mul (2 ^ var_of w (root w)) ∙ sym (ap (λ (l : List ℕ). count_of l) (cut_root_under w o m e) ∙ false_count (vars w))))
      (λ e.
      rw (left_free w m (root w) e) (whole
      ∙ sym (reduce_count sent sent_ordered)
      ∙ ap (λ (l : List ℕ). count_of l) (send_is_cut w o m 0 (omega arith) e)))

-- Nothing is taken: all is left.
send_none : (w : List ℕ) → send (λ q. false) 0 w ≡ w
unfolding relinked
send_none w = ext_get_or 0 (send (λ q. false) 0 w) w (send_length (λ q. false) 0 w) (λ j h.
    let inside : j < length w = let e = send_length (λ q. false) 0 w in omega arith in
    let here : 0 + j ≡ j = omega arith in
    table_at (λ i. cond (ltb i 6 || eqb (i % 3) 0) (get_or w i 0) (get_or w i 0)) 0 (length w) j 0 inside
    ∙ ap (λ (i : ℕ). cond (ltb i 6 || eqb (i % 3) 0) (get_or w i 0) (get_or w i 0)) here
    ∙ alike (ltb j 6 || eqb (j % 3) 0) (get_or w j 0))
  where
    alike : (b : Bool) (x : ℕ) → cond b x x ≡ x
    alike true x = refl
    alike false x = refl

pub left_none : (w : List ℕ) (p : ℕ) → left_of w (λ q. false) p ≡ worth_of true w p
left_none w p = left_free w (λ q. false) p refl ∙ ap (λ (l : List ℕ). worth_of true l p) (send_none w)
