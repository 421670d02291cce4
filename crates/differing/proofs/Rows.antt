-- A valuation's row is the bits of its number.
use Prim.Native.Nat.{ℕ, suc, ◌+◌, ◌*◌, ◌/◌, ◌%◌, ◌^◌, ◌<◌}
use mathlib.Core.Path.{◌≡◌, refl, sym, ap, ◌∙◌}
use mathlib.Core.Bool.{Bool, true, false, cond}
use mathlib.Core.List.{List, [], ◌∷◌}
use native.Mathlib.Omega.{arith}
use native.Mathlib.Nat.{add-mul-div_right, div-eq_of_lt, pow-suc, one-le-pow, zero-mul, add-zero}
use lib.ListN.{length}
use Rattle.text.specs.Digits.{character, spell}
use Rattle.comparison.specs.Comparison.{numeral}
use Rattle.comparison.proofs.Least.{numeral_low, numeral_high, numeral_less}
use Rattle.differing.specs.Differing.{row}

-- What stands above the lowest k bits.
above : (r m k : ℕ) → r < 2 ^ k → (r + m * 2 ^ k) / 2 ^ k ≡ m
above r m k h = add-mul-div_right r m (one-le-pow k 2 (omega arith)) ∙ omega (arith, div-eq_of_lt h)

odd : (m : ℕ) → (m * 2 + 1) % 2 ≡ 1
odd m = omega arith

even : (m : ℕ) → (m * 2) % 2 ≡ 0
even m = omega arith

join_one : (p r m : ℕ) → p + r + m * (p * 2) ≡ r + (m * 2 + 1) * p
join_one p r m = omega arith

join_zero : (p r m : ℕ) → r + m * (p * 2) ≡ r + (m * 2) * p
join_zero p r m = omega arith

rows : (bs : List Bool) (m : ℕ) → spell 2 (numeral bs + m * 2 ^ length bs) (length bs) ≡ row bs
unfolding spell row character
rows [] m = refl
rows (true ∷ bs) m =
    let k = length bs in
    let e : numeral (true ∷ bs) + m * 2 ^ suc k ≡ numeral bs + (m * 2 + 1) * 2 ^ k = rw (numeral_high bs, pow-suc) (join_one (2 ^ k) (numeral bs) m) in
    ap (λ (n : ℕ). spell 2 n (suc k)) e ∙ rw (above (numeral bs) (m * 2 + 1) k (numeral_less bs), odd m, rows bs (m * 2 + 1)) refl
rows (false ∷ bs) m =
    let k = length bs in
    let e : numeral (false ∷ bs) + m * 2 ^ suc k ≡ numeral bs + (m * 2) * 2 ^ k = rw (numeral_low bs, pow-suc) (join_zero (2 ^ k) (numeral bs) m) in
    ap (λ (n : ℕ). spell 2 n (suc k)) e ∙ rw (above (numeral bs) (m * 2) k (numeral_less bs), even m, rows bs (m * 2)) refl

pub row_is : (bs : List Bool) → spell 2 (numeral bs) (length bs) ≡ row bs
row_is bs =
    let e : numeral bs + 0 * 2 ^ length bs ≡ numeral bs = omega arith in
    ap (λ (n : ℕ). spell 2 n (length bs)) (sym e) ∙ rows bs 0

pub row_length : (bs : List Bool) → length (row bs) ≡ length bs
unfolding row
row_length [] = refl
row_length (bit ∷ bs) = ap suc (row_length bs)
