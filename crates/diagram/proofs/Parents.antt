-- An acceptance without a search: where variables grow along every link and each node but the root has a parent, every
-- node is reached, since parents stand at ever smaller variables and so end at the root.
use Prim.Native.Nat.{ℕ, zero, suc, ◌+◌, ◌-◌, ◌≤◌, ◌<◌, min}
use mathlib.Core.Path.{◌≡◌, refl, sym, subst, ◌∙◌}
use mathlib.Core.Bool.{Bool, true, false}
use mathlib.Core.List.{List, ◌++◌}
use mathlib.Core.Logic.{◌⊎◌, inl, inr, ⊎_elim}
use native.Mathlib.Omega.{arith}
use borrow.Author.Tests.{eqb-true, eqb-false, ltb-true, ltb-false}
use lib.ListN.{length, get_or, set, drop, replicate, length-set, length-replicate, get_or-replicate, get_or-append}
use lib.Seq.{get_or-set_same, get_or-set_other}
use lib.Dec.{ltb, eqb}
use Rattle.diagram.specs.Diagram.{var_of, low_of, high_of, size, vars, root, Reach, start, by_low, by_high, Formed, Accepted}
use Rattle.diagram.specs.Verdict.{accepted, refused, first, first_node, is_above, is_broken, graph_of}
use Rattle.diagram.specs.Marking.{Marked, Marks, Linked}
use Rattle.diagram.proofs.Tests.{by_test, by-eq, not_both}
use Rattle.diagram.proofs.Count.{first_from, first_least, first_passes}
use Rattle.diagram.proofs.Meaning.{above_told, above_tells, graph_accepted, accepted_graph}
use Rattle.diagram.proofs.Rows.{refuse_12, pass_12}

pub linked_begins : (w r : List ℕ) (n : ℕ) → n ≡ size w → n ≤ length r → Linked w (replicate (min n (length r)) 0 ++ drop n r) 2
linked_begins w r n e h =
    record {
      two = omega arith;
      above = λ p two l. absurd (omega arith);
      children = λ p two l. absurd (omega arith);
      parent = λ p l m. absurd (omega (arith, m, none p (omega arith)));
    }
  where
    none : (p : ℕ) → p < n → get_or (replicate (min n (length r)) 0 ++ drop n r) p 0 ≡ 0
    none p l =
        let m : p < min n (length r) = omega arith in
        get_or-append (replicate (min n (length r)) 0) (drop n r) 0 p (rw length-replicate m) ∙ get_or-replicate (min n (length r)) p 0 0 m

-- a mark stays when another is set, and is there where it is set
set_marks : (r : List ℕ) (a p : ℕ) → a < length r → (p ≡ a) ⊎ Marked r p → Marked (set r a 1) p
set_marks r a p l h =
    by-eq p a
    (λ e. let z : get_or (set r a 1) p 0 ≡ 1 = rw e (get_or-set_same r a 1 0 l) in omega arith)
    (λ e. let z = get_or-set_other r a p 1 0 e in ⊎_elim (λ x. absurd (e x)) (λ m. omega (arith, m, z)) h)

pub linked_on : (w r : List ℕ) (k : ℕ) → Formed w → size w ≤ length r → Linked w r k → k < size w → is_above w k ≡ true
    → Linked w (set (set r (low_of w k) 1) (high_of w k) 1) (k + 1)
linked_on w r k formed long s l t =
    let two : 2 ≤ k = s.two in
    let i = formed.ranges k two l in
    let a : low_of w k < length r = omega (arith, i.low) in
    let b : high_of w k < length (set r (low_of w k) 1) = simp length-set (omega (arith, i.high)) in
    let later : (p : ℕ) → (p ≡ high_of w k) ⊎ ((p ≡ low_of w k) ⊎ Marked r p) → Marked (set (set r (low_of w k) 1) (high_of w k) 1) p =
    λ p h. set_marks (set r (low_of w k) 1) (high_of w k) p b (⊎_elim (λ e. inl e) (λ o. inr (set_marks r (low_of w k) p a o)) h)
    in
    record {
      two = omega arith;
      children = λ p two' l'.
          by-eq p k
          (λ e. rw e (later (low_of w k) (inr (inl refl)), later (high_of w k) (inl refl)))
          (λ e. let c = s.children p two' (omega arith) in (later (low_of w p) (inr (inr c.0)), later (high_of w p) (inr (inr c.1))));
      above = λ p two' l'. by-eq p k (λ e. rw e t) (λ e. s.above p two' (omega arith));
      parent = λ p l' m.
          by-eq p (high_of w k)
          (λ e. (k, two, l, inr (sym e)))
          (λ a.
          by-eq p (low_of w k)
          (λ e. (k, two, l, inl (sym e)))
          (λ b.
          let same = get_or-set_other (set r (low_of w k) 1) (high_of w k) p 1 0 a ∙ get_or-set_other r (low_of w k) p 1 0 b in
          s.parent p l' (omega (arith, m, same))));
    }

module _ (w r : List ℕ) (k : ℕ) (s : Linked w r k) (all : size w ≤ k)
    (marked : (p : ℕ) → 2 ≤ p → p < size w → (p ≡ root w → ⊥) → Marked r p) where
  -- by the variable
  reached_below : (m p : ℕ) → var_of w p < m → 2 ≤ p → p < size w → Reach w (root w) p
  reached_below zero p h two l = absurd (omega arith)
  reached_below (suc m) p h two l =
      by-eq p (root w)
      (λ e. subst (λ (x : ℕ). Reach w (root w) x) (sym e) start)
      (λ e.
      let o = s.parent p l (marked p two l e) in
      let q = o.0 in
      let a = above_told w q (s.above q o.1 (omega (arith, o.2))) in
      ⊎_elim
      (λ x.
      subst (λ (y : ℕ). Reach w (root w) y) x
      (by_low (reached_below m q (omega (arith, h, rw x at a.low)) o.1 o.2) o.1))
      (λ x.
      subst (λ (y : ℕ). Reach w (root w) y) x
      (by_high (reached_below m q (omega (arith, h, rw x at a.high)) o.1 o.2) o.1))
      o.3)

pub plain_accepted : (w r : List ℕ) (n k lost : ℕ) → n ≡ size w → Formed w → Linked w r k → n ≤ k
    → lost ≡ first (λ p. eqb (get_or r p 0) 0) 2 (n - 2) → n - 1 ≤ lost
    → graph_of w ≡ accepted (size w) (vars w)
plain_accepted w r n k lost en formed s all e l =
    accepted_graph w formed
    (record {
      formed = formed;
      ordered = λ p two m _. above_told w p (s.above p two (omega arith));
      reached = λ p two m. reached_below w r k s (omega arith) marked (suc (var_of w p)) p (omega arith) two m;
    })
  where
    marked : (p : ℕ) → 2 ≤ p → p < size w → (p ≡ root w → ⊥) → Marked r p
    marked p two m ne =
        let z = eqb-false (get_or r p 0) 0 (first_least (λ p'. eqb (get_or r p' 0) 0) 2 (n - 2) p two (omega arith)) in
        omega arith

-- And only then: in an accepted array every node is above its children and every node but the root is some node's child.
pub reach_inside : (w : List ℕ) → Formed w → {p : ℕ} → Reach w (root w) p → p < size w
reach_inside w formed start = omega (arith, formed.some)
reach_inside w formed (by_low {p = q} x two) = (formed.ranges q two (reach_inside w formed x)).low
reach_inside w formed (by_high {p = q} x two) = (formed.ranges q two (reach_inside w formed x)).high

child_marked : (w r : List ℕ) (k : ℕ) → Formed w → Linked w r k → size w ≤ k → {p : ℕ} → Reach w (root w) p → (p ≡ root w → ⊥) → Marked r p
child_marked w r k formed s all start ne = absurd (ne refl)
child_marked w r k formed s all (by_low {p = q} x two) ne = (s.children q two (omega (arith, reach_inside w formed x))).0
child_marked w r k formed s all (by_high {p = q} x two) ne = (s.children q two (omega (arith, reach_inside w formed x))).1

pub not_above : (w : List ℕ) (k n : ℕ) {r : List ℕ} → n ≡ size w → Linked w r k → (k < size w → is_above w k ≡ false) → k < n → Accepted w → ⊥
not_above w k n e s f l a =
    let m : k < size w = omega arith in
    not_both (is_above w k) (above_tells w k (a.ordered k s.two m (a.reached k s.two m))) (f m)

pub not_linked : (w r : List ℕ) (n k lost : ℕ) → n ≡ size w → Formed w → Linked w r k → n ≤ k
    → lost ≡ first (λ p. eqb (get_or r p 0) 0) 2 (n - 2) → lost < n - 1 → Accepted w → ⊥
not_linked w r n k lost en formed s all e l a =
    let t : ℕ → Bool = λ p. eqb (get_or r p 0) 0 in
    let f = first_from t 2 (n - 2) in
    let z : get_or r lost 0 ≡ 0 = eqb-true (get_or r lost 0) 0 (rw e (first_passes t 2 (n - 2) (omega (arith, e)))) in
    let m = child_marked w r k formed s (omega arith) (a.reached lost (omega (arith, f.0, e)) (omega arith)) (λ x. omega arith) in
    omega (arith, m, z)

-- what the code writes at a node
pub both_set : (w : List ℕ) (p : ℕ) (r r₁ r₂ : List ℕ) (low at high at₂ : ℕ) → low ≡ low_of w p → at ≡ low → r₁ ≡ set r at 1
    → high ≡ high_of w p → at₂ ≡ high → r₂ ≡ set r₁ at₂ 1 → r₂ ≡ set (set r (low_of w p) 1) (high_of w p) 1
both_set w p r r₁ r₂ low at high at₂ a b c d e f = rw (f, c, e, b, d, a)

-- the return of the check of a plain diagram
pub pass_plain : (w : List ℕ) (n v : ℕ) → n ≡ size w → v ≡ vars w → graph_of w ≡ accepted (size w) (vars w) → accepted n v ≡ graph_of w
pass_plain w n v a b e = rw (a, b) (sym e)

-- the last return: no order is broken and not everything is right, so a node is out of reach
pub lost_left : (w r : List ℕ) (n broken lost : ℕ) → n ≡ size w → Formed w → broken ≡ first_node w (is_broken w) → n ≤ broken → Marks w r
    → lost ≡ first (λ p. eqb (get_or r p 0) 0) 2 (n - 2) → (Accepted w → ⊥) → refused 12 lost ≡ graph_of w
lost_left w r n broken lost en formed eb a marks el amiss =
    by_test (ltb lost n)
    (λ e. refuse_12 w n broken en eb a r marks lost el (ltb-true lost n e))
    (λ e. absurd (amiss (graph_accepted w formed n (vars w) (sym (pass_12 w n broken en eb a r marks lost el (ltb-false lost n e) (vars w) refl)))))
