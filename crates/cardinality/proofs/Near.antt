-- Whole numbers as floats: a whole number is rounded to a whole number, `near`, which is the number itself while it has no more
-- digits than the format keeps, and never passes a power of two.
use Prim.Native.Nat.compare
use Prim.Native.Nat.{ℕ, zero, suc, ◌+◌, ◌-◌, ◌*◌, ◌/◌, ◌%◌, ◌^◌, ◌≤◌, ◌<◌, compare, Ordering}
use mathlib.Core.Path.{◌≡◌, sym, ap, ◌∙◌}
use mathlib.Core.Bool.{Bool, false}
use native.Mathlib.Omega.{arith}
use native.Mathlib.Decide.{dec_lt}
use native.Mathlib.Nat.{le_trans, le_of_eq, lt_of_le_of_lt, lt_of_lt_of_le, not-le_of_lt, lt_of_not-le, lt_irrefl, mul-one, one-mul, mul_comm, mul_assoc, mul_right_comm, mul-le-mul_right, mul-lt-mul_of_pos_right, mul-pos, mul-div_cancel, mul-mod_left, div-one, eq_of_mul-eq-mul_right}
use lib.Pow.{pow-add, pow_pos, pow_mono, pow-lt}
use lib.Ieee.{Float, nan, inf, fin, Format, prec, emax, low, up, down, size as digits, nearest, units, round}
use lib.Ieee.Digits.{size-lt, size-le, size_reaches}
use lib.Ieee.Exact.{HasValue, units_val}
use lib.Ieee.Fits.{core, round_is, two}
use lib.Ieee.Back.{round_whole}
use lib.Ieee.Nearest.{closest, closest_mono, closest_same}

-- ---- the nearest whole number to a fraction that is one

above_zero : (u : ℕ) → 0 < u → compare 0 u ≡ Ordering.lt
above_zero zero h = absurd (lt_irrefl 0 h)
above_zero (suc u) h = compare.zero-suc u

closest_exact : (q u : ℕ) → 0 < u → closest (q * u) u ≡ q
closest_exact q u h =
    ap (λ (x : ℕ). nearest x (compare (q * u % u * 2) u)) (mul-div_cancel q h)
    ∙ ap (λ (x : ℕ). nearest q (compare (x * 2) u)) (mul-mod_left q u)
    ∙ ap (nearest q) (above_zero u h)

-- ---- digits

size_more : (n j : ℕ) → 2 ^ j ≤ n → j < digits n
size_more n j h = lt_of_not-le (λ (g : digits n ≤ j). not-le_of_lt (lt_of_lt_of_le (size-lt n) (pow_mono g)) h)

size_scaled : (n t : ℕ) → 0 < digits n → digits (n * 2 ^ t) ≡ digits n + t
size_scaled n t z =
    let lo : 2 ^ (digits n - 1) ≤ n = size_reaches n (digits n - 1) (omega arith) in
    let low_end : 2 ^ (digits n - 1 + t) ≤ n * 2 ^ t = le_trans (le_of_eq (pow-add 2 (digits n - 1) t)) (mul-le-mul_right (2 ^ t) lo) in
    let high_end : n * 2 ^ t < 2 ^ (digits n + t) = lt_of_lt_of_le (mul-lt-mul_of_pos_right (size-lt n) (pow_pos t)) (le_of_eq (sym (pow-add 2 (digits n) t))) in
    let a = size_more (n * 2 ^ t) (digits n - 1 + t) low_end in
    let b = size-le (n * 2 ^ t) (digits n + t) high_end in
    omega arith

-- ---- the whole number that a format keeps of n

unfoldable pub near : Format → ℕ → ℕ
near f n = closest n (2 ^ (digits n - prec f)) * 2 ^ (digits n - prec f)

abbrev extra : Format → ℕ → ℕ
extra f n = digits n - prec f

split : (k d : ℕ) → d ≤ k → 2 ^ (k - d) * 2 ^ d ≡ 2 ^ k
split k d h = let e : k - d + d ≡ k = omega arith in sym (pow-add 2 (k - d) d) ∙ ap (λ (x : ℕ). 2 ^ x) e

pub near_most : (f : Format) (n k : ℕ) → n ≤ 2 ^ k → near f n ≤ 2 ^ k
unfolding near
near_most f n k h =
    let s : digits n ≤ suc k = size-le n (suc k) (lt_of_le_of_lt h (pow-lt {i = k} {j = suc k} (omega arith))) in
    let t = two f in
    let d = extra f n in
    let l : d ≤ k = omega arith in
    let u : 0 < 2 ^ d = pow_pos d in
    let m : closest n (2 ^ d) ≤ closest (2 ^ k) (2 ^ d) = closest_mono n (2 ^ d) (2 ^ k) (2 ^ d) u u (mul-le-mul_right (2 ^ d) h) in
    let e : closest (2 ^ k) (2 ^ d) ≡ 2 ^ (k - d) = ap (λ (x : ℕ). closest x (2 ^ d)) (sym (split k d l)) ∙ closest_exact (2 ^ (k - d)) (2 ^ d) u in
    le_trans (mul-le-mul_right (2 ^ d) (le_trans m (le_of_eq e))) (le_of_eq (split k d l))

near_short : (f : Format) (n : ℕ) → n < 2 ^ prec f → near f n ≡ n
unfolding near
near_short f n h =
    let s = size-le n (prec f) h in
    let e : extra f n ≡ 0 = omega arith in
    ap (λ (d : ℕ). closest n (2 ^ d) * 2 ^ d) e
    ∙ mul-one (closest n 1)
    ∙ ap (λ (x : ℕ). closest x 1) (sym (mul-one n))
    ∙ closest_exact n 1 (omega arith)

-- ---- a rounded whole number has the value `near`

-- the same value by a smaller fraction
cancelled : (x : Float) (s : Bool) (a l : ℕ) → 0 < l → HasValue x s (a * l) l → HasValue x s a 1
cancelled nan s a l p v = v
cancelled (inf t) s a l p v = v
cancelled (fin t m e) s a l p v = (
  v.0,
  eq_of_mul-eq-mul_right l p (m * up e * 1) (a * down e) (ap (λ (y : ℕ). y * l) (mul-one (m * up e)) ∙ v.1 ∙ mul_right_comm a l (down e)),
)

long_value : (f : Format) (n : ℕ) → 2 ^ prec f ≤ n → near f n < 2 ^ suc (emax f) → HasValue (round f false n 1) false (near f n) 1
unfolding near
long_value f n h under =
    let l = low f in
    let d = extra f n in
    let q = closest n (2 ^ d) in
    let z = size_more n (prec f) h in
    let sizes : digits (n * 2 ^ l / 1) - prec f ≡ d + l = ap (λ (x : ℕ). digits x - prec f) (div-one (n * 2 ^ l)) ∙ later (digits n) (digits (n * 2 ^ l)) (prec f) l (size_scaled n l (omega arith)) (omega arith) in
    let kept : closest (n * 2 ^ l) (1 * 2 ^ (d + l)) ≡ q =
    closest_same (n * 2 ^ l) (1 * 2 ^ (d + l)) n (2 ^ d) (mul-pos (omega arith) (pow_pos (d + l))) (pow_pos d)
    (mul_assoc n (2 ^ l) (2 ^ d) ∙ ap (λ (x : ℕ). n * x) (mul_comm (2 ^ l) (2 ^ d) ∙ sym (pow-add 2 d l) ∙ sym (one-mul (2 ^ (d + l))))) in
    let is : round f false n 1 ≡ units f false q (d + l) =
    round_is f false n 1
    ∙ ap (λ (k : ℕ). core f false (n * 2 ^ l) 1 k) sizes
    ∙ ap (λ (x : ℕ). units f false x (d + l)) kept in
    let fraction : q * 2 ^ (d + l) ≡ q * 2 ^ d * 2 ^ l = ap (λ (x : ℕ). q * x) (pow-add 2 d l) ∙ sym (mul_assoc q (2 ^ d) (2 ^ l)) in
    let fine : q * 2 ^ (d + l) < 2 ^ (l + suc (emax f)) =
    lt_of_le_of_lt (le_of_eq fraction)
    (lt_of_lt_of_le (mul-lt-mul_of_pos_right under (pow_pos l)) (le_of_eq (mul_comm (2 ^ suc (emax f)) (2 ^ l) ∙ sym (pow-add 2 l (suc (emax f)))))) in
    cancelled (round f false n 1) false (q * 2 ^ d) (2 ^ l) (pow_pos l)
    (rw (is, ← fraction) (units_val f false q (d + l) fine))
  where
    later : (z y p l : ℕ) → y ≡ z + l → p ≤ z → y - p ≡ z - p + l
    later z y p l e h = omega arith

pub near_value : (f : Format) (n : ℕ) → near f n < 2 ^ suc (emax f) → HasValue (round f false n 1) false (near f n) 1
near_value f n under = elim (dec_lt n (2 ^ prec f)) [
  | yes h ↦ rw (near_short f n h) (round_whole f false n (omega arith))
  | no h ↦ long_value f n (omega arith) under
]
