-- A yes of `is_valuation` means a count of exactly 1; on a reduced array a count of 1 gets a yes. Of reduction's clauses
-- only the first is asked for: no node with low = high.
use Prim.Native.Nat.{ℕ, zero, suc, ◌+◌, ◌-◌, ◌*◌, ◌^◌, ◌≤◌, ◌<◌}
use mathlib.Core.Path.{◌≡◌, refl, sym, ap, ◌∙◌}
use mathlib.Core.Logic.{◌≢◌}
use mathlib.Core.Bool.{true}
use mathlib.Core.List.{List}
use native.Mathlib.Omega.{arith}
use native.Mathlib.Decide.{dec_lt}
use native.Mathlib.Nat.{pow-suc, mul-one, mul_assoc, le-mul_of_pos_right, sub-zero}
use lib.Pow.{pow_pos}
use lib.Dec.{eqb}
use borrow.Author.Tests.{eqb-true, eq-eqb}
use Rattle.diagram.specs.Diagram.{var_of, low_of, high_of, size, vars, root, Ordered}
use Rattle.diagram.specs.Valuations.{count_of}
use Rattle.diagram.proofs.Tests.{by-eq, and_both, both_and}
use Rattle.diagram.proofs.Reading.{layered, root_in, by_two, at_end}
use Rattle.counts.specs.Worth.{worth_of, doublings}
use Rattle.counts.proofs.Nodes.{worth_end, worth_node, total_valuations}
use Rattle.reduction.specs.Demand3.{Lean}
use Rattle.queries.specs.Queries.{only_child, along, every, is_clause, is_valuation}
use Rattle.queries.proofs.SoleWalk.{every_at, every_all, only_low, only_high, only_none, only_in, along_start, along_node, along_inside}

-- ---- products with powers of two

product_zero : (x d : ℕ) → x * 2 ^ d ≡ 0 → x ≡ 0
product_zero x d e = omega (arith, le-mul_of_pos_right x (pow_pos d))

product_one : (x d : ℕ) → x * 2 ^ d ≡ 1 → (x ≡ 1) × (d ≡ 0)
product_one x zero e = (sym (mul-one x) ∙ e, refl)
product_one x (suc d) e = absurd (omega (arith, ap (λ (y : ℕ). x * y) (pow-suc 2 d), mul_assoc x (2 ^ d) 2))

module _ (w : List ℕ) (o : Ordered w) where
  abbrev worth : ℕ → ℕ
  worth p = worth_of true w p

  -- a node's worth, with the factors written out
  node_is : (p : ℕ) → 2 ≤ p → p < size w
      → worth p ≡ worth (low_of w p) * 2 ^ (var_of w (low_of w p) - var_of w p - 1) + worth (high_of w p) * 2 ^ (var_of w (high_of w p) - var_of w p - 1)
  unfolding doublings
  node_is p two h = worth_node w o true p two h

  node_one : (p : ℕ) → 2 ≤ p → p < size w → (c : ℕ) → c ≡ only_child w p → worth c ≡ 1 → var_of w c ≡ suc (var_of w p) → worth p ≡ 1
  node_one p two h c ec x y = by-eq (low_of w p) 0
      (λ z.
      let q : c ≡ high_of w p = ec ∙ only_low w p z in
      let d : var_of w (high_of w p) - var_of w p - 1 ≡ 0 = omega (arith, ap (var_of w) q) in
      let one : worth (high_of w p) ≡ 1 = ap worth (sym q) ∙ x in
      let none : worth (low_of w p) ≡ 0 = ap worth z ∙ worth_end w o true 0 (omega arith) o.formed.some in
      node_is p two h ∙ rw (d, one, none) (omega arith))
      (λ n. by-eq (high_of w p) 0
      (λ z.
      let q : c ≡ low_of w p = ec ∙ only_high w p n z in
      let d : var_of w (low_of w p) - var_of w p - 1 ≡ 0 = omega (arith, ap (var_of w) q) in
      let one : worth (low_of w p) ≡ 1 = ap worth (sym q) ∙ x in
      let none : worth (high_of w p) ≡ 0 = ap worth z ∙ worth_end w o true 0 (omega arith) o.formed.some in
      node_is p two h ∙ rw (d, one, none) (omega arith))
      (λ m.
      let q : c ≡ 0 = ec ∙ only_none w p n m in
      let none : worth c ≡ 0 = ap worth q ∙ worth_end w o true 0 (omega arith) o.formed.some in
      absurd (omega arith)))

  count_is : count_of w ≡ worth (root w) * 2 ^ var_of w (root w)
  unfolding doublings
  count_is = sym (total_valuations w o)

  -- ---- a yes: every node of the walk is worth 1

  module _ (e : is_valuation w ≡ true) where
    yes_ends : along w (vars w) ≡ 1
    yes_ends = eqb-true (along w (vars w)) 1 (and_both (is_clause w) (every (vars w) (λ i. eqb (var_of w (along w i)) i)) e).0

    yes_in : 1 < size w
    yes_in = let h = along_inside w o (vars w) in omega (arith, yes_ends)

    yes_var : (i : ℕ) → i ≤ vars w → var_of w (along w i) ≡ i
    yes_var i h = by-eq i (vars w)
        (λ x. ap (λ (k : ℕ). var_of w (along w k)) x ∙ ap (var_of w) yes_ends ∙ (layered w o).terminal 1 (omega arith) yes_in ∙ sym x)
        (λ ne.
        eqb-true (var_of w (along w i)) i
        (every_at (vars w) (λ i. eqb (var_of w (along w i)) i) (and_both (is_clause w) (every (vars w) (λ i. eqb (var_of w (along w i)) i)) e).1 i (omega arith)))

    yes_worth : (j i : ℕ) → i + j ≡ vars w → worth (along w i) ≡ 1
    yes_worth zero i l =
        let x : i ≡ vars w = omega arith in
        ap (λ (k : ℕ). worth (along w k)) x ∙ ap worth yes_ends ∙ worth_end w o true 1 (omega arith) yes_in
    yes_worth (suc j) i l =
        let h = along_inside w o i in
        let here = yes_var i (omega arith) in
        let two : 2 ≤ along w i = by_two (along w i) (λ t. absurd (omega (arith, (layered w o).terminal (along w i) t h))) (λ two. two) in
        node_one (along w i) two h (along w (suc i)) (along_node w i two) (yes_worth j (suc i) (omega arith))
        (yes_var (suc i) (omega arith) ∙ ap suc (sym here))

    pub valuation_count : count_of w ≡ 1
    valuation_count =
        let one : worth (root w) ≡ 1 = rw (along_start w) at (yes_worth (vars w) 0 (omega arith)) in
        let first : var_of w (root w) ≡ 0 = rw (along_start w) at (yes_var 0 (omega arith)) in
        count_is ∙ rw (one, first)

  -- ---- on an array with no low = high

  module _ (lean : Lean w) where
    -- only node 0 is worth nothing
    worthless : (k p : ℕ) → p < size w → vars w ≤ var_of w p + k → worth p ≡ 0 → p ≡ 0
    worthless zero p h f e =
        let t = at_end w (vars w) (size w) (layered w o) p h (omega arith) in
        sym (worth_end w o true p t h) ∙ e
    worthless (suc k) p h f e = by_two p
        (λ t. sym (worth_end w o true p t h) ∙ e)
        (λ two.
        let l = (layered w o).node p two h in
        let s = node_is p two h in
        let a = worthless k (low_of w p) l.low (omega (arith, l.above_low)) (product_zero (worth (low_of w p)) (var_of w (low_of w p) - var_of w p - 1) (omega arith)) in
        let b = worthless k (high_of w p) l.high (omega (arith, l.above_high)) (product_zero (worth (high_of w p)) (var_of w (high_of w p) - var_of w p - 1) (omega arith)) in
        absurd (lean p two h (a ∙ sym b)))

    none_zero : (p : ℕ) → p < size w → worth p ≡ 0 → p ≡ 0
    none_zero p h e = worthless (vars w) p h (omega arith) e

    -- p counts 1 at variable i, and so does its only child at the next one
    record One (i p : ℕ) : Type 0 where
      inside : p < size w
      passed : i ≤ var_of w p
      one : worth p * 2 ^ (var_of w p - i) ≡ 1

    one_var : {i p : ℕ} → One i p → (worth p ≡ 1) × (var_of w p ≡ i)
    one_var {i} {p} a = let q = product_one (worth p) (var_of w p - i) a.one in (q.0, omega (arith, q.1, a.passed))

    one_on : {i p : ℕ} → One i p → 2 ≤ p → One (suc i) (only_child w p)
    one_on {i} {p} a two =
        let h = a.inside in
        let q = one_var a in
        let here = q.1 in
        let g = (layered w o).node p two h in
        let s = node_is p two h in
        by-eq (worth (low_of w p) * 2 ^ (var_of w (low_of w p) - var_of w p - 1)) 0
        (λ z.
        let low : low_of w p ≡ 0 = none_zero (low_of w p) g.low (product_zero (worth (low_of w p)) (var_of w (low_of w p) - var_of w p - 1) z) in
        let d : var_of w (high_of w p) - var_of w p - 1 ≡ var_of w (high_of w p) - suc i = omega arith in
        let y : worth (high_of w p) * 2 ^ (var_of w (high_of w p) - var_of w p - 1) ≡ 1 = omega (arith, q.0) in
        rw (only_low w p low) (record { inside = g.high; passed = omega (arith, g.above_high); one = rw d at y }))
        (λ n.
        let high : high_of w p ≡ 0 = none_zero (high_of w p) g.high (product_zero (worth (high_of w p)) (var_of w (high_of w p) - var_of w p - 1) (omega (arith, q.0))) in
        let d : var_of w (low_of w p) - var_of w p - 1 ≡ var_of w (low_of w p) - suc i = omega arith in
        let y : worth (low_of w p) * 2 ^ (var_of w (low_of w p) - var_of w p - 1) ≡ 1 = omega (arith, q.0) in
        let low : low_of w p ≢ 0 = λ z. lean p two h (z ∙ sym high) in
        rw (only_high w p low high) (record { inside = g.low; passed = omega (arith, g.above_low); one = rw d at y }))

    module _ (count : count_of w ≡ 1) where
      one_along : (i : ℕ) → i ≤ vars w → One i (along w i)
      one_along zero h = rw (along_start w) (record { inside = root_in w o; passed = omega arith; one = simp sub-zero (sym count_is ∙ count) })
      one_along (suc i) h =
          let a = one_along i (omega arith) in
          let v = (one_var a).1 in
          let two : 2 ≤ along w i = by_two (along w i) (λ t. absurd (omega (arith, (layered w o).terminal (along w i) t a.inside))) (λ two. two) in
          rw (along_node w i two) (one_on a two)

      pub count_valuation : is_valuation w ≡ true
      count_valuation =
          let a = one_along (vars w) (omega arith) in
          let q = one_var a in
          let t = at_end w (vars w) (size w) (layered w o) (along w (vars w)) a.inside (omega (arith, q.1)) in
          let one : along w (vars w) ≡ 1 = sym (worth_end w o true (along w (vars w)) t a.inside) ∙ q.0 in
          both_and (is_clause w) (every (vars w) (λ i. eqb (var_of w (along w i)) i)) (eq-eqb (along w (vars w)) 1 one)
          (every_all (vars w) (λ i. eqb (var_of w (along w i)) i) (λ i h. eq-eqb (var_of w (along w i)) i (one_var (one_along i (omega arith))).1))
