-- Bits of floats: of a power of two, and in two words of the working room.
use Prim.Native.Nat.{ℕ, suc, ◌+◌, ◌-◌, ◌*◌, ◌/◌, ◌%◌, ◌^◌, ◌<◌}
use mathlib.Core.Path.{◌≡◌, refl, ap, ◌∙◌}
use mathlib.Core.Bool.{Bool, false, not}
use mathlib.Core.List.{List}
use native.Mathlib.Omega.{arith}
use lib.IntN.{pos}
use lib.ListN.{length, get_or, set, length-set}
use lib.Seq.{get_or-set_same, get_or-set_other}
use lib.Dec.{T, leb, ltb}
use lib.Count.{count_trailing_zeros}
use lib.Ieee.{Float, fin, binary64, minus, odd, fits, is_nan, nan_bits, of_fields, of_bits, to_bits}
use lib.Ieee.Bits.{of_bits-to_bits, nan_bits_is, nan_bits_above}
use borrow.Author.Tests.{ne_eqb, lt-leb, le-leb, le-ltb}
use Rattle.cardinality.specs.Cardinality.{nought, power_of_two}
use Rattle.cardinality.specs.Table.{bits_at, In, Noted}

-- ---- 0.0, and 2 ^ k by its bits

pub nought_bits : of_bits binary64 0 ≡ nought
unfolding of_bits of_fields odd
nought_bits = refl

-- only the leading digit is set
one_digit : (x : ℕ) → odd 53 false 4503599627370496 x 1074 ≡ fin false 1 (minus (x + 52) 1074)
unfolding odd count_trailing_zeros
one_digit x = refl

exponent : (k : ℕ) → minus (1022 + k + 52) 1074 ≡ pos k
exponent k =
    let e : 1022 + k + 52 - 1074 ≡ k = omega arith in
    simp (le-leb 1074 (1022 + k + 52) (omega arith)) (ap pos e)

power_fields : (k : ℕ) → k < 1024 → of_fields binary64 false (suc (1022 + k)) 0 ≡ power_of_two k
unfolding of_fields
power_fields k h =
    simp (ne_eqb (suc (1022 + k)) 2047 (λ e. omega arith)) (one_digit (1022 + k) ∙ ap (fin false 1) (exponent k))

pub power_bits : (k : ℕ) → k < 1024 → of_bits binary64 ((1023 + k) * 4503599627370496) ≡ power_of_two k
unfolding of_bits
power_bits k h =
    let b : ℕ = (1023 + k) * 4503599627370496 in
    let positive : leb 9223372036854775808 b ≡ false = lt-leb 9223372036854775808 b (omega arith) in
    let field : b % 9223372036854775808 / 4503599627370496 ≡ suc (1022 + k) = omega arith in
    let digits : b % 4503599627370496 ≡ 0 = omega arith in
    ap (λ (s : Bool). of_fields binary64 s (b % 9223372036854775808 / 4503599627370496) (b % 4503599627370496)) positive
    ∙ ap (λ (x : ℕ). of_fields binary64 false x (b % 4503599627370496)) field
    ∙ ap (λ (x : ℕ). of_fields binary64 false (suc (1022 + k)) x) digits
    ∙ power_fields k h

pub power_no_nan : (k : ℕ) → k < 1024 → T (not (nan_bits binary64 ((1023 + k) * 4503599627370496)))
power_no_nan k h =
    let b : ℕ = (1023 + k) * 4503599627370496 in
    let e : ltb 9218868437227405312 (b % 9223372036854775808) ≡ false = le-ltb 9218868437227405312 (b % 9223372036854775808) (omega arith) in
    rw (nan_bits_above binary64 b, e) tt

-- ---- bits that are a float's

module _ (x : Float) (fit : T (fits binary64 x)) (b : ℕ) (e : b ≡ to_bits binary64 x) where
  pub bits_back : of_bits binary64 b ≡ x
  bits_back = ap (of_bits binary64) e ∙ of_bits-to_bits binary64 x fit

  pub bits_no_nan : T (not (is_nan x)) → T (not (nan_bits binary64 b))
  bits_no_nan n = rw (nan_bits_is binary64 b, bits_back) n

-- ---- in two words

pub bits_read : (room : List ℕ) (base q i lo hi : ℕ) → i ≡ q → lo ≡ get_or room (base + 2 * i) 0 → hi ≡ get_or room (base + 2 * i + 1) 0
    → lo + hi * 4294967296 ≡ bits_at base room q
bits_read room base q i lo hi ei el eh = rw (el, eh, ei)

pub bits_noted : (room : List ℕ) (base q i b : ℕ) → i ≡ q → In base room q
    → Noted base room q b (set (set room (base + 2 * i) (b % 4294967296)) (base + 2 * i + 1) (b / 4294967296))
bits_noted room base q i b e inside = rw e (go room base q b inside)
  where
    go : (room : List ℕ) (base q b : ℕ) → In base room q
        → Noted base room q b (set (set room (base + 2 * q) (b % 4294967296)) (base + 2 * q + 1) (b / 4294967296))
    go room base q b inside =
        let at : ℕ = base + 2 * q in
        let lo : ℕ = b % 4294967296 in
        let hi : ℕ = b / 4294967296 in
        let one = set room at lo in
        let l : length one ≡ length room = length-set room at lo in
        record {
          size = length-set one (at + 1) hi ∙ l;
          here =
              let x : get_or (set one (at + 1) hi) at 0 ≡ lo = get_or-set_other one (at + 1) at hi 0 (λ z. omega arith) ∙ get_or-set_same room at lo 0 (omega arith) in
              let y : get_or (set one (at + 1) hi) (at + 1) 0 ≡ hi = get_or-set_same one (at + 1) hi 0 (omega arith) in
              rw (x, y) (omega arith);
          other = λ r ne.
              let x : get_or (set one (at + 1) hi) (base + 2 * r) 0 ≡ get_or room (base + 2 * r) 0 = get_or-set_other one (at + 1) (base + 2 * r) hi 0 (λ z. omega arith) ∙ get_or-set_other room at (base + 2 * r) lo 0 (λ z. ne (omega arith)) in
              let y : get_or (set one (at + 1) hi) (base + 2 * r + 1) 0 ≡ get_or room (base + 2 * r + 1) 0 = get_or-set_other one (at + 1) (base + 2 * r + 1) hi 0 (λ z. ne (omega arith)) ∙ get_or-set_other room at (base + 2 * r + 1) lo 0 (λ z. omega arith) in
              rw (x, y) refl;
          before = λ k h. get_or-set_other one (at + 1) k hi 0 (λ z. omega arith) ∙ get_or-set_other room at k lo 0 (λ z. omega arith);
        }
