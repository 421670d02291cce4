-- Floats that are whole numbers: scaling one by a power of two is exact, and a sum of two is their sum rounded once.
use Prim.Native.Nat.{ℕ, suc, ◌+◌, ◌-◌, ◌*◌, ◌/◌, ◌%◌, ◌^◌, ◌≤◌, ◌<◌, compare}
use mathlib.Core.Path.{◌≡◌, refl, sym, ap, ◌∙◌}
use mathlib.Core.Bool.{true, false, not, true≢false}
use native.Mathlib.Omega.{arith}
use native.Mathlib.Decide.{dec_lt}
use native.Mathlib.Nat.{le_trans, le_of_eq, lt_of_le_of_lt, lt_of_lt_of_le, mul-one, one-mul, mul_comm, mul_assoc, mul_right_comm, mul-lt-mul_of_pos_right, mul-pos, eq_of_mul-eq-mul_right, add-mul}
use lib.Dec.{T}
use lib.Pow.{pow-add, pow_pos, pow-lt}
use lib.Ieee.{Float, nan, inf, fin, Format, prec, emax, low, up, down, size as digits, round, add, mul, is_nan}
use lib.Ieee.Exact.{HasValue, round_exact}
use lib.Ieee.Fits.{down_pos, two, nearest-le, kept-lt}
use lib.Ieee.Back.{round_whole}
use lib.Ieee.Nearest.{closest}
use lib.Ieee.Scale.{round_same}
use Rattle.cardinality.specs.Cardinality.{power_of_two}
use Rattle.cardinality.proofs.Near.{near, near_most, near_value}

-- A whole number that the format holds: no more digits than it keeps, and zeros.
pub record Held (f : Format) (n : ℕ) : Type 0 where
  pub kept : ℕ
  pub zeros : ℕ
  pub small : kept < 2 ^ prec f
  pub is : n ≡ kept * 2 ^ zeros

-- x is the whole number n.
pub record Whole (f : Format) (x : Float) (n : ℕ) : Type 0 where
  pub value : HasValue x false n 1
  pub held : Held f n

-- ---- a float has one value, and is no NaN where it has one

pub one_value : (x : Float) (a b : ℕ) → HasValue x false a 1 → HasValue x false b 1 → a ≡ b
one_value nan a b v u = absurd v
one_value (inf t) a b v u = absurd v
one_value (fin t m e) a b v u = eq_of_mul-eq-mul_right (down e) (down_pos e) a b (sym v.1 ∙ u.1)

pub no_nan : (x : Float) (a c : ℕ) → HasValue x false a c → T (not (is_nan x))
unfolding is_nan
no_nan nan a c v = v
no_nan (inf t) a c v = tt
no_nan (fin t m e) a c v = tt

-- ---- what the format holds

pub held_scaled : (f : Format) (n k : ℕ) → Held f n → Held f (n * 2 ^ k)
held_scaled f n k h = record {
  kept = h.kept;
  zeros = h.zeros + k;
  small = h.small;
  is = ap (λ (x : ℕ). x * 2 ^ k) h.is ∙ mul_assoc h.kept (2 ^ h.zeros) (2 ^ k) ∙ ap (λ (x : ℕ). h.kept * x) (sym (pow-add 2 h.zeros k));
}

pub held_near : (f : Format) (n : ℕ) → Held f (near f n)
unfolding near
held_near f n =
    let d = digits n - prec f in
    let q = closest n (2 ^ d) in
    let most : q ≤ 2 ^ prec f = le_trans (nearest-le (n / 2 ^ d) (compare (n % 2 ^ d * 2) (2 ^ d))) (kept-lt (prec f) n) in
    elim (dec_lt q (2 ^ prec f)) [
      | yes l ↦ record { kept = q; zeros = d; small = l; is = refl }
      | no l ↦
          let e : q ≡ 2 ^ prec f = omega arith in
          record {
            kept = 1;
            zeros = prec f + d;
            small = pow-lt {i = 0} {j = prec f} (omega (arith, two f));
            is = ap (λ (x : ℕ). x * 2 ^ d) e ∙ sym (pow-add 2 (prec f) d) ∙ sym (one-mul (2 ^ (prec f + d)));
          }
    ]

pub held_value : (f : Format) (n : ℕ) → Held f n → n < 2 ^ suc (emax f) → HasValue (round f false n 1) false n 1
unfolding held_scaled
held_value f n h under =
    let l = low f in
    let e : n * 2 ^ l ≡ h.kept * 2 ^ (h.zeros + l) = (held_scaled f n l h).is in
    round_exact f false n 1 h.kept (h.zeros + l) (omega arith) h.small
    (lt_of_le_of_lt (le_of_eq (sym e))
    (lt_of_lt_of_le (mul-lt-mul_of_pos_right under (pow_pos l)) (le_of_eq (mul_comm (2 ^ suc (emax f)) (2 ^ l) ∙ sym (pow-add 2 l (suc (emax f)))))))
    (e ∙ sym (mul-one (h.kept * 2 ^ (h.zeros + l))))

-- ---- scaling

mul_is_round : (f : Format) (x : Float) (n k : ℕ) → HasValue x false n 1 → mul f x (power_of_two k) ≡ round f false (n * 2 ^ k) 1
unfolding mul
mul_is_round f nan n k v = absurd v
mul_is_round f (inf t) n k v = absurd v
mul_is_round f (fin true m e) n k v = absurd (true≢false v.0)
mul_is_round f (fin false m e) n k v =
    round_same f false (m * up e * (1 * 2 ^ k)) (down e * 1) (n * 2 ^ k) 1 (mul-pos (down_pos e) (omega arith)) (omega arith)
    (mul-one (m * up e * (1 * 2 ^ k))
    ∙ ap (λ (x : ℕ). m * up e * x) (one-mul (2 ^ k))
    ∙ ap (λ (x : ℕ). x * 2 ^ k) (sym (mul-one (m * up e)) ∙ v.1)
    ∙ mul_right_comm n (down e) (2 ^ k)
    ∙ ap (λ (x : ℕ). n * 2 ^ k * x) (sym (mul-one (down e))))

pub whole_scaled : (f : Format) (x : Float) (n k : ℕ) → Whole f x n → n * 2 ^ k < 2 ^ suc (emax f) → Whole f (mul f x (power_of_two k)) (n * 2 ^ k)
whole_scaled f x n k w under =
    let h = held_scaled f n k w.held in
    record { value = rw (mul_is_round f x n k w.value) (held_value f (n * 2 ^ k) h under); held = h }

-- ---- a sum

add_is_round : (f : Format) (x y : Float) (a b : ℕ) → HasValue x false a 1 → HasValue y false b 1 → add f x y ≡ round f false (a + b) 1
unfolding add
add_is_round f nan y a b v u = absurd v
add_is_round f (inf t) y a b v u = absurd v
add_is_round f (fin true m e) y a b v u = absurd (true≢false v.0)
add_is_round f (fin false m e) nan a b v u = absurd u
add_is_round f (fin false m e) (inf t) a b v u = absurd u
add_is_round f (fin false m e) (fin true n d) a b v u = absurd (true≢false u.0)
add_is_round f (fin false m e) (fin false n d) a b v u =
    let x : m * up e * down d ≡ a * (down e * down d) = ap (λ (z : ℕ). z * down d) (sym (mul-one (m * up e)) ∙ v.1) ∙ mul_assoc a (down e) (down d) in
    let y : n * up d * down e ≡ b * (down e * down d) = ap (λ (z : ℕ). z * down e) (sym (mul-one (n * up d)) ∙ u.1) ∙ mul_assoc b (down d) (down e) ∙ ap (λ (z : ℕ). b * z) (mul_comm (down d) (down e)) in
    round_same f false (m * up e * down d + n * up d * down e) (down e * down d) (a + b) 1 (mul-pos (down_pos e) (down_pos d)) (omega arith)
    (mul-one (m * up e * down d + n * up d * down e) ∙ rw (x, y) (sym (add-mul a b (down e * down d))))

pub whole_sum : (f : Format) (x y : Float) (a b : ℕ) → Whole f x a → Whole f y b → near f (a + b) < 2 ^ suc (emax f) → Whole f (add f x y) (near f (a + b))
whole_sum f x y a b v u under =
    record { value = rw (add_is_round f x y a b v.value u.value) (near_value f (a + b) under); held = held_near f (a + b) }

-- ---- a sum of few digits is exact

pub near_exact : (f : Format) (n : ℕ) → n ≤ 2 ^ prec f → prec f ≤ emax f → near f n ≡ n
near_exact f n h fine =
    let under : near f n < 2 ^ suc (emax f) = lt_of_le_of_lt (near_most f n (prec f) h) (pow-lt {i = prec f} {j = suc (emax f)} (omega arith)) in
    one_value (round f false n 1) (near f n) n (near_value f n under) (round_whole f false n h)
