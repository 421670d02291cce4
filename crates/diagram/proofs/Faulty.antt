-- Refusals 8 to 10 node by node are the first node with a fault, and its fault.
use Prim.Native.Nat.{ℕ, zero, suc, ◌+◌, ◌-◌}
use mathlib.Core.Path.{◌≡◌, ◌∙◌, ap}
use mathlib.Core.Bool.{Bool, true, false}
use mathlib.Core.List.{List}
use native.Mathlib.Omega.{arith}
use borrow.Author.Tests.{lt-ltb, le-ltb, ltb-true, ltb-false}
use lib.Dec.{leb, ltb}
use Rattle.diagram.specs.Diagram.{var_of, low_of, high_of, size, vars}
use Rattle.diagram.specs.Verdict.{Outcome, accepted, refused, row, first, first_node, ranges_from, ranges_of}
use Rattle.diagram.specs.Faults.{fault_of, is_faulty}
use Rattle.diagram.proofs.Tests.{by_test}

module _ (w : List ℕ) where
  abbrev faulty : ℕ → Bool
  faulty = is_faulty (size w) (vars w) w

  abbrev fault : ℕ → ℕ
  fault = fault_of (size w) (vars w) w

  -- the fault at a place before an end
  abbrev by_first : ℕ → ℕ → Outcome
  by_first q end = row (fault q) (ltb q end) q (accepted (size w) (vars w))

  first_here : (p k : ℕ) → faulty p ≡ true → first faulty p (suc k) ≡ p
  unfolding first
  first_here p k e = rw e

  first_on : (p k : ℕ) → faulty p ≡ false → first faulty p (suc k) ≡ first faulty (suc p) k
  unfolding first
  first_on p k e = rw e

  row_here : (p k number : ℕ) → fault p ≡ number → faulty p ≡ true → refused number p ≡ by_first (first faulty p (suc k)) (p + suc k)
  unfolding row
  row_here p k number e t = rw (first_here p k t, e, lt-ltb p (p + suc k) (omega arith))

  at_var : (p : ℕ) → leb (vars w) (var_of w p) ≡ true → fault p ≡ 8
  unfolding fault_of
  at_var p a = rw a

  module _ (p : ℕ) (a : leb (vars w) (var_of w p) ≡ false) where
    at_low : leb (size w) (low_of w p) ≡ true → fault p ≡ 9
    unfolding fault_of
    at_low b = rw (a, b)

    at_high : leb (size w) (low_of w p) ≡ false → leb (size w) (high_of w p) ≡ true → fault p ≡ 10
    unfolding fault_of
    at_high b c = rw (a, b, c)

    at_none : leb (size w) (low_of w p) ≡ false → leb (size w) (high_of w p) ≡ false → fault p ≡ 0
    unfolding fault_of
    at_none b c = rw (a, b, c)

  pub ranges_from_lem : (p k : ℕ) → ranges_from w p k ≡ by_first (first faulty p k) (p + k)
  unfolding ranges_from row first
  ranges_from_lem p zero = rw (le-ltb p (p + 0) (omega arith))
  ranges_from_lem p (suc k) =
      by_test (leb (vars w) (var_of w p))
      (λ a. let e : fault p ≡ 8 = at_var p a in rw a (row_here p k 8 e (rw e)))
      (λ a.
      by_test (leb (size w) (low_of w p))
      (λ b. let e : fault p ≡ 9 = at_low p a b in rw (a, b) (row_here p k 9 e (rw e)))
      (λ b.
      by_test (leb (size w) (high_of w p))
      (λ c. let e : fault p ≡ 10 = at_high p a b c in rw (a, b, c) (row_here p k 10 e (rw e)))
      (λ c.
      let e : fault p ≡ 0 = at_none p a b c in
      let j : suc p + k ≡ p + suc k = omega arith in
      rw (a, b, c) (ranges_from_lem (suc p) k ∙ rw (first_on p k (rw e), j)))))

  pub ranges_by : ranges_of w ≡ by_first (first_node w faulty) (size w)
  unfolding ranges_of ranges_from row first
  ranges_by =
      by_test (ltb (size w) 2)
      (λ e. let l = ltb-true (size w) 2 e in let z : size w - 2 ≡ 0 = omega arith in rw (z, le-ltb 2 (size w) (omega arith)))
      (λ e. let l = ltb-false (size w) 2 e in let j : 2 + (size w - 2) ≡ size w = omega arith in ranges_from_lem 2 (size w - 2) ∙ ap (by_first (first_node w faulty)) j)
