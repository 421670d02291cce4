-- Whether a diagram holds for some valuation, by its links.
use Prim.Native.Nat.{ℕ, zero, suc, ◌-◌, ◌≤◌, ◌<◌}
use mathlib.Core.Path.{◌≡◌, refl, sym, ◌∙◌}
use mathlib.Core.Logic.{◌≢◌}
use mathlib.Core.Bool.{Bool, true, false, cond}
use mathlib.Core.List.{List}
use native.Mathlib.Omega.{arith}
use native.Mathlib.Decide.{dec_lt}
use native.Mathlib.Nat.{le-mul_of_pos_right}
use lib.ListN.{get_or, replicate, length-replicate}
use lib.Pow.{pow_pos}
use lib.Dec.{ltb, eqb}
use borrow.Author.Tests.{lt-ltb, le-ltb, eq-eqb, ne_eqb, eqb-true}
use Rattle.diagram.specs.Diagram.{var_of, low_of, high_of, size, vars, root, step, walk, holds, Reach, start, by_low, by_high, Ordered, Accepted}
use Rattle.diagram.specs.Valuations.{count_of}
use Rattle.diagram.specs.Verdict.{first}
use Rattle.diagram.proofs.Tests.{by-eq, not_both, or_left, or_right, or_cases}
use Rattle.diagram.proofs.Count.{first_from, first_least, first_passes}
use Rattle.diagram.proofs.Parents.{reach_inside}
use Rattle.diagram.proofs.Reading.{by_two, accepted_ordered}
use Rattle.counts.specs.Worth.{worth_of, doublings}
use Rattle.counts.proofs.Nodes.{worth_end, worth_node, total_valuations}
use Rattle.approximation.proofs.Constants.{two_holds}
use Rattle.approximation.proofs.Sizing.{none_nowhere, nowhere_none}
use Rattle.told.specs.Told.{to_one}

module _ (w : List ℕ) (p : ℕ) where
  pub one_low : low_of w p ≡ 1 → to_one w p ≡ true
  unfolding to_one
  one_low e = or_left (eqb (low_of w p) 1) (eqb (high_of w p) 1) (eq-eqb (low_of w p) 1 e)

  pub one_high : high_of w p ≡ 1 → to_one w p ≡ true
  unfolding to_one
  one_high e = or_right (eqb (low_of w p) 1) (eqb (high_of w p) 1) (eq-eqb (high_of w p) 1 e)

  pub one_either : low_of w p ≢ 1 → {high : ℕ} → high ≡ high_of w p → eqb high 1 ≡ to_one w p
  unfolding to_one
  one_either ne e = rw (ne_eqb (low_of w p) 1 ne, e) refl

  by_one : {P : Type 0} → to_one w p ≡ true → (low_of w p ≡ 1 → P) → (high_of w p ≡ 1 → P) → P
  unfolding to_one
  by_one e low high =
      or_cases (eqb (low_of w p) 1) (eqb (high_of w p) 1) e (λ l. low (eqb-true (low_of w p) 1 l)) (λ h. high (eqb-true (high_of w p) 1 h))

module _ (w : List ℕ) (a : Accepted w) where
  ordered : Ordered w
  ordered = accepted_ordered w a

  -- ---- no link to node 1: no path comes there

  module _ (none : (p : ℕ) → 2 ≤ p → p < size w → to_one w p ≡ false) (bs : List Bool) where
    turn : (b : Bool) (p : ℕ) → 2 ≤ p → p < size w → (cond b (high_of w p) (low_of w p) < size w) × (cond b (high_of w p) (low_of w p) ≢ 1)
    turn false p two h = ((a.formed.ranges p two h).low, λ e. not_both (to_one w p) (one_low w p e) (none p two h))
    turn true p two h = ((a.formed.ranges p two h).high, λ e. not_both (to_one w p) (one_high w p e) (none p two h))

    steps : (p : ℕ) → p < size w → p ≢ 1 → (step w bs p < size w) × (step w bs p ≢ 1)
    unfolding step
    steps p h ne = by_two p
        (λ t. rw (lt-ltb p 2 t) (h, ne))
        (λ two. rw (le-ltb p 2 two) (turn (get_or bs (var_of w p) false) p two h))

    walks : (k p : ℕ) → p < size w → p ≢ 1 → walk w bs k p ≢ 1
    unfolding walk
    walks zero p h ne = ne
    walks (suc k) p h ne = let s = steps p h ne in walks k (step w bs p) s.0 s.1

    never : size w ≢ 2 → holds w bs ≡ false
    unfolding holds
    never two =
        let some = a.formed.some in
        ne_eqb (walk w bs (vars w) (root w)) 1 (walks (vars w) (root w) (omega arith) (λ e. two (omega arith)))

  -- ---- a link to node 1: what a reached node is worth, the root is worth

  abbrev gap : ℕ → ℕ → ℕ
  gap p q = doublings true (var_of w q - var_of w p - 1)

  worth_low : (p : ℕ) → 2 ≤ p → p < size w → 0 < worth_of true w (low_of w p) → 0 < worth_of true w p
  worth_low p two h some =
      omega (arith, worth_node w ordered true p two h, le-mul_of_pos_right (worth_of true w (low_of w p)) (pow_pos (gap p (low_of w p))))

  worth_high : (p : ℕ) → 2 ≤ p → p < size w → 0 < worth_of true w (high_of w p) → 0 < worth_of true w p
  worth_high p two h some =
      omega (arith, worth_node w ordered true p two h, le-mul_of_pos_right (worth_of true w (high_of w p)) (pow_pos (gap p (high_of w p))))

  leads : {q : ℕ} → Reach w (root w) q → 0 < worth_of true w q → 0 < worth_of true w (root w)
  leads start h = h
  leads (by_low {p = p} x two) h = leads x (worth_low p two (reach_inside w a.formed x) h)
  leads (by_high {p = p} x two) h = leads x (worth_high p two (reach_inside w a.formed x) h)

  one_worth : (q : ℕ) → q ≡ 1 → 2 ≤ size w → 0 < worth_of true w q
  one_worth q e two = rw e (omega (arith, worth_end w ordered true 1 (omega arith) (omega arith)))

  root_counts : 0 < worth_of true w (root w) → 0 < count_of w
  root_counts h =
      omega (arith, total_valuations w ordered, le-mul_of_pos_right (worth_of true w (root w)) (pow_pos (doublings true (var_of w (root w)))))

  some_counts : (p : ℕ) → 2 ≤ p → p < size w → to_one w p ≡ true → 0 < count_of w
  some_counts p two h e = root_counts (by_one w p e
      (λ l. leads (by_low (a.reached p two h) two) (one_worth (low_of w p) l (omega arith)))
      (λ l. leads (by_high (a.reached p two h) two) (one_worth (high_of w p) l (omega arith))))

  -- ---- what the code answers

  pub two_somewhere : {n : ℕ} → n ≡ size w → n ≡ 2 → true ≡ ltb 0 (count_of w)
  two_somewhere is two = by-eq (count_of w) 0
      (λ e. absurd (not_both (holds w bits) (two_holds w bits (sym is ∙ two)) (none_nowhere w e bits (length-replicate (vars w) false))))
      (λ ne. sym (lt-ltb 0 (count_of w) (omega arith)))
    where
      bits : List Bool
      bits = replicate (vars w) false

  pub first_somewhere : {n r : ℕ} → n ≡ size w → n ≢ 2 → r ≡ first (to_one w) 2 (n - 2) → ltb r n ≡ ltb 0 (count_of w)
  first_somewhere {n} {r} is ne e =
      let from = first_from (to_one w) 2 (n - 2) in
      elim (dec_lt r n) [
        | yes h ↦
            let passes = first_passes (to_one w) 2 (n - 2) (omega arith) in
            let some = some_counts (first (to_one w) 2 (n - 2)) from.0 (omega arith) passes in
            lt-ltb r n h ∙ sym (lt-ltb 0 (count_of w) some)
        | no h ↦
            let none = nowhere_none w (λ bs l. never (λ p two inside. first_least (to_one w) 2 (n - 2) p two (omega arith)) bs (λ two. ne (is ∙ two))) in
            le-ltb r n (omega arith) ∙ sym (le-ltb 0 (count_of w) (omega arith))
      ]
