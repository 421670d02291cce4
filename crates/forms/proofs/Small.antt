-- The words of a diagram are words of 32 bits.
use Prim.Native.Nat.{ℕ, ◌+◌, ◌*◌, ◌/◌, ◌%◌, ◌≤◌, ◌<◌, ◌^◌}
use mathlib.Core.Path.{◌≡◌}
use mathlib.Core.List.{List}
use native.Mathlib.Omega.{arith}
use lib.ListN.{get_or, get_or-eq_default}
use Rattle.diagram.specs.Diagram.{var_of, low_of, high_of, size, Formed}
use Rattle.writing.proofs.Laws.{by_le}

module _ (w : List ℕ) (f : Formed w) where
  beyond : (p r : ℕ) → size w ≤ p → get_or w (3 * p + r) 0 ≡ 0
  beyond p r h = get_or-eq_default w 0 (omega (arith, f.whole))

  -- A node is beyond the others, has its links in range, or is one of the two terminals.
  by_node : (P : ℕ → Type 0) (p : ℕ) → (size w ≤ p → P p) → (2 ≤ p → p < size w → P p) → (1 < size w → P 1) → P 0 → P p
  by_node P p past inner one none =
      by_le (size w) p past
      (λ h. by_le 2 p
      (λ l. inner l h)
      (λ l. by_le 1 p
      (λ o. (let e : p ≡ 1 = omega arith in rw e (one (omega arith))))
      (λ o. (let e : p ≡ 0 = omega arith in rw e none))))

  var_small : (p : ℕ) → var_of w p < 2 ^ 32
  var_small p =
      by_node (λ q. var_of w q < 2 ^ 32) p
      (λ h. (let z : get_or w (3 * p + 0) 0 ≡ 0 = beyond p 0 h in (let e : 3 * p + 0 ≡ 3 * p = omega arith in (let y : var_of w p ≡ 0 = rw e at z in omega arith))))
      (λ l h. omega (arith, (f.ranges p l h).var, f.variables))
      (λ h. omega (arith, (f.one_terminal h).var, f.variables))
      (omega (arith, f.variables))

  low_small : (p : ℕ) → low_of w p < 2 ^ 32
  low_small p =
      by_node (λ q. low_of w q < 2 ^ 32) p
      (λ h. (let y : low_of w p ≡ 0 = beyond p 1 h in omega arith))
      (λ l h. omega (arith, (f.ranges p l h).low, f.few))
      (λ h. omega (arith, (f.one_terminal h).low))
      (omega (arith, f.zero_terminal.low))

  high_small : (p : ℕ) → high_of w p < 2 ^ 32
  high_small p =
      by_node (λ q. high_of w q < 2 ^ 32) p
      (λ h. (let y : high_of w p ≡ 0 = beyond p 2 h in omega arith))
      (λ l h. omega (arith, (f.ranges p l h).high, f.few))
      (λ h. omega (arith, (f.one_terminal h).high))
      (omega (arith, f.zero_terminal.high))

  pub words_small : (k : ℕ) → get_or w k 0 < 2 ^ 32
  words_small k =
      by_le (k % 3) 0
      (λ h. (let e : k ≡ 3 * (k / 3) = omega arith in rw e (var_small (k / 3))))
      (λ h. by_le (k % 3) 1
      (λ l. (let e : k ≡ 3 * (k / 3) + 1 = omega arith in rw e (low_small (k / 3))))
      (λ l. (let e : k ≡ 3 * (k / 3) + 2 = omega arith in rw e (high_small (k / 3)))))
