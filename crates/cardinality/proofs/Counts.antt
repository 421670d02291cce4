-- The f64 count of every node: a whole number, the true count where that is at most 2 ^ 53, and never more than all valuations.
use Prim.Native.Nat.{ℕ, zero, suc, ◌+◌, ◌-◌, ◌*◌, ◌^◌, ◌≤◌, ◌<◌}
use mathlib.Core.Path.{◌≡◌, refl, sym, ap, ◌∙◌}
use mathlib.Core.Bool.{true, false}
use mathlib.Core.List.{List}
use native.Mathlib.Omega.{arith}
use native.Mathlib.Nat.{le_refl, le_trans, le_of_eq, lt_of_le_of_lt, mul-one, mul-le-mul, mul-le-mul_right, pow-suc}
use lib.Pow.{pow-add, pow_pos, pow-lt}
use lib.Ieee.{Float, binary64, emax, add, mul, fits}
use lib.Ieee.Exact.{HasValue}
use lib.Ieee.Fits.{mul-fits}
use lib.Ieee.Back.{whole_unique}
use borrow.Author.Tests.{lt-ltb, le-ltb}
use Rattle.diagram.specs.Limits.{max_variables}
use Rattle.diagram.specs.Diagram.{var_of, low_of, high_of, size, vars, root, Ordered}
use Rattle.diagram.specs.Valuations.{count_of}
use Rattle.diagram.proofs.Reading.{Layered, layered, root_in, by_two, at_end, var_most}
use Rattle.counts.specs.Worth.{worth_of, doublings}
use Rattle.counts.proofs.Nodes.{worth_end, worth_node, total_valuations}
use Rattle.cardinality.specs.Cardinality.{nought, power_of_two, terminal_of, part_of, join_of, float_at, cardinality_of}
use Rattle.cardinality.specs.Table.{float_of}
use Rattle.cardinality.proofs.Near.{near, near_most}
use Rattle.cardinality.proofs.Wholes.{Whole, whole_scaled, whole_sum, near_exact}

-- ---- the definition's two cases, and that as many links as variables are left are enough

pub float_end : (w : List ℕ) (k p : ℕ) → p < 2 → float_at w k p ≡ terminal_of p
unfolding float_at
float_end w zero p h = refl
float_end w (suc k) p h = simp (lt-ltb p 2 h)

pub float_node : (w : List ℕ) (k p : ℕ) → 2 ≤ p → float_at w (suc k) p ≡ join_of w p (float_at w k (low_of w p)) (float_at w k (high_of w p))
unfolding float_at
float_node w k p h = simp (le-ltb p 2 h)

module _ (w : List ℕ) (v n : ℕ) (g : Layered w v n) where
  float_enough : (k j p : ℕ) → p < n → v ≤ var_of w p + k → v ≤ var_of w p + j → float_at w k p ≡ float_at w j p
  float_enough zero j p h a b =
      let t = at_end w v n g p h (omega arith) in
      float_end w zero p t ∙ sym (float_end w j p t)
  float_enough (suc k) zero p h a b =
      let t = at_end w v n g p h (omega arith) in
      float_end w (suc k) p t ∙ sym (float_end w zero p t)
  float_enough (suc k) (suc j) p h a b = by_two p
      (λ t. float_end w (suc k) p t ∙ sym (float_end w (suc j) p t))
      (λ two.
      let l = g.node p two h in
      let x = float_enough k j (low_of w p) l.low (omega arith) (omega arith) in
      let y = float_enough k j (high_of w p) l.high (omega arith) (omega arith) in
      float_node w k p two
      ∙ ap (λ (z : Float). join_of w p z (float_at w k (high_of w p))) x
      ∙ ap (λ (z : Float). join_of w p (float_at w j (low_of w p)) z) y
      ∙ sym (float_node w j p two))

module _ (w : List ℕ) (o : Ordered w) where
  abbrev g : Layered w (vars w) (size w)
  g = layered w o

  pub float_of_end : (p : ℕ) → p < 2 → float_of w p ≡ terminal_of p
  float_of_end p t = float_end w (vars w - var_of w p) p t

  pub float_of_node : (p : ℕ) → 2 ≤ p → p < size w → float_of w p ≡ join_of w p (float_of w (low_of w p)) (float_of w (high_of w p))
  float_of_node p two h =
      let l = g.node p two h in
      let k : ℕ = vars w - var_of w p - 1 in
      let e : vars w - var_of w p ≡ suc k = omega (arith, l.var) in
      ap (λ (x : ℕ). float_at w x p) e
      ∙ float_node w k p two
      ∙ ap (λ (z : Float). join_of w p z (float_at w k (high_of w p))) (float_enough w (vars w) (size w) g k (vars w - var_of w (low_of w p)) (low_of w p) l.low (omega (arith, l.above_low, l.var)) (omega arith))
      ∙ ap (λ (z : Float). join_of w p (float_of w (low_of w p)) z) (float_enough w (vars w) (size w) g k (vars w - var_of w (high_of w p)) (high_of w p) l.high (omega (arith, l.above_high, l.var)) (omega arith))

  pub float_root : cardinality_of w ≡ mul binary64 (float_of w (root w)) (power_of_two (var_of w (root w)))
  float_root =
      ap (λ (z : Float). mul binary64 z (power_of_two (var_of w (root w))))
      (float_enough w (vars w) (size w) g (vars w) (vars w - var_of w (root w)) (root w) (root_in w o) (omega arith) (omega arith))

-- ---- what a float says of a count s of at most 2 ^ k

pub record Stands (x : Float) (s k : ℕ) : Type 0 where
  pub number : ℕ
  pub whole : Whole binary64 x number
  pub most : number ≤ 2 ^ k
  pub exact : s ≤ 2 ^ 53 → number ≡ s

under_all : (n k : ℕ) → n ≤ 2 ^ k → k ≤ max_variables → n < 2 ^ suc (emax binary64)
under_all n k h l = lt_of_le_of_lt h (pow-lt {i = k} {j = 1024} (omega arith))

-- a number is no more than it is scaled
scaled_more : (s d : ℕ) → s ≤ s * 2 ^ d
scaled_more s d = le_trans (le_of_eq (sym (mul-one s))) (mul-le-mul (le_refl s) (pow_pos d))

pub stands_scaled : (x : Float) (s k d : ℕ) → Stands x s k → k + d ≤ max_variables → Stands (mul binary64 x (power_of_two d)) (s * 2 ^ d) (k + d)
stands_scaled x s k d h l =
    let most : h.number * 2 ^ d ≤ 2 ^ (k + d) = le_trans (mul-le-mul_right (2 ^ d) h.most) (le_of_eq (sym (pow-add 2 k d))) in
    record {
      number = h.number * 2 ^ d;
      whole = whole_scaled binary64 x h.number d h.whole (under_all (h.number * 2 ^ d) (k + d) most l);
      most = most;
      exact = λ few. ap (λ (n : ℕ). n * 2 ^ d) (h.exact (le_trans (scaled_more s d) few));
    }

pub stands_sum : (x y : Float) (s t k : ℕ) → Stands x s k → Stands y t k → suc k ≤ max_variables → Stands (add binary64 x y) (s + t) (suc k)
stands_sum x y s t k h i l =
    let all : h.number + i.number ≤ 2 ^ suc k = omega (arith, h.most, i.most, pow-suc 2 k) in
    let most = near_most binary64 (h.number + i.number) (suc k) all in
    record {
      number = near binary64 (h.number + i.number);
      whole = whole_sum binary64 x y h.number i.number h.whole i.whole (under_all (near binary64 (h.number + i.number)) (suc k) most l);
      most = most;
      exact = λ few.
          let e : h.number + i.number ≡ s + t = omega (arith, h.exact (omega arith), i.exact (omega arith)) in
          near_exact binary64 (h.number + i.number) (le_trans (le_of_eq e) few) (omega arith) ∙ e;
    }

-- the same by other names
stands_as : {x y : Float} {s t k : ℕ} → x ≡ y → s ≡ t → Stands x s k → Stands y t k
stands_as e d h = rw (← e, ← d) h

zero_stands : (k : ℕ) → Stands nought 0 k
zero_stands k = record {
  number = 0;
  whole = record { value = (refl, refl); held = record { kept = 0; zeros = 0; small = pow_pos 53; is = refl } };
  most = omega arith;
  exact = λ few. refl;
}

one_stands : (k : ℕ) → Stands (power_of_two 0) 1 k
one_stands k = record {
  number = 1;
  whole = record { value = (refl, refl); held = record { kept = 1; zeros = 0; small = pow-lt {i = 0} {j = 53} (omega arith); is = refl } };
  most = pow_pos k;
  exact = λ few. refl;
}

pub terminal_stands : (p k : ℕ) → p < 2 → Stands (terminal_of p) p k
unfolding terminal_of
terminal_stands zero k t = zero_stands k
terminal_stands (suc zero) k t = one_stands k
terminal_stands (suc (suc p)) k t = absurd (omega arith)

module _ (w : List ℕ) (o : Ordered w) where
  abbrev At : ℕ → Type 0
  At p = Stands (float_of w p) (worth_of true w p) (vars w - var_of w p)

  at_terminal : (p : ℕ) → p < 2 → p < size w → At p
  at_terminal p t h = stands_as (sym (float_of_end w o p t)) (sym (worth_end w o true p t h)) (terminal_stands p (vars w - var_of w p) t)

  -- a child's part, at its parent
  at_part : (p q : ℕ) → var_of w p < var_of w q → var_of w q ≤ vars w → At q
      → Stands (part_of w p q (float_of w q)) (worth_of true w q * 2 ^ (var_of w q - var_of w p - 1)) (vars w - var_of w p - 1)
  at_part p q up inside h =
      let u = o.formed.variables in
      let e : vars w - var_of w q + (var_of w q - var_of w p - 1) ≡ vars w - var_of w p - 1 = omega arith in
      rw e at (stands_scaled (float_of w q) (worth_of true w q) (vars w - var_of w q) (var_of w q - var_of w p - 1) h (omega arith))

  at_node : (p : ℕ) → 2 ≤ p → p < size w → At (low_of w p) → At (high_of w p) → At p
  unfolding doublings
  at_node p two h low high =
      let l = (layered w o).node p two h in
      let u = o.formed.variables in
      let k : ℕ = vars w - var_of w p - 1 in
      let e : suc k ≡ vars w - var_of w p = omega (arith, l.var) in
      let a = at_part p (low_of w p) l.above_low (var_most w (vars w) (size w) (layered w o) (low_of w p) l.low) low in
      let b = at_part p (high_of w p) l.above_high (var_most w (vars w) (size w) (layered w o) (high_of w p) l.high) high in
      stands_as (sym (float_of_node w o p two h)) (sym (worth_node w o true p two h))
      (rw e at (stands_sum _ _ _ _ k a b (omega arith)))

  at_within : (k p : ℕ) → p < size w → vars w ≤ var_of w p + k → At p
  at_within zero p h m = at_terminal p (at_end w (vars w) (size w) (layered w o) p h (omega arith)) h
  at_within (suc k) p h m = by_two p
      (λ t. at_terminal p t h)
      (λ two.
      let l = (layered w o).node p two h in
      at_node p two h (at_within k (low_of w p) l.low (omega (arith, l.above_low))) (at_within k (high_of w p) l.high (omega (arith, l.above_high))))

  pub float_stands : (p : ℕ) → p < size w → Stands (float_of w p) (worth_of true w p) (vars w - var_of w p)
  float_stands p h = at_within (vars w) p h (omega arith)

  pub count_stands : Stands (cardinality_of w) (count_of w) (vars w)
  unfolding doublings
  count_stands =
      let m = var_most w (vars w) (size w) (layered w o) (root w) (root_in w o) in
      let u = o.formed.variables in
      let e : vars w - var_of w (root w) + var_of w (root w) ≡ vars w = omega arith in
      stands_as (sym (float_root w o)) (total_valuations w o)
      (rw e at (stands_scaled (float_of w (root w)) (worth_of true w (root w)) (vars w - var_of w (root w)) (var_of w (root w)) (float_stands (root w) (root_in w o)) (omega arith)))

  -- a count of at most 2 ^ 53 comes out exactly
  pub count_exact : count_of w ≤ 2 ^ 53 → HasValue (cardinality_of w) false (count_of w) 1
  count_exact few = let s = count_stands in rw (← s.exact few) s.whole.value

  -- false gives 0.0
  pub false_is_nought : count_of w ≡ 0 → cardinality_of w ≡ nought
  false_is_nought e =
      let v : HasValue (cardinality_of w) false 0 1 = rw e at (count_exact (rw e (omega arith))) in
      whole_unique binary64 (cardinality_of w) nought false 0 (mul-fits binary64 (float_at w (vars w) (root w)) (power_of_two (var_of w (root w)))) (unfold fits in tt) v (refl, refl)
