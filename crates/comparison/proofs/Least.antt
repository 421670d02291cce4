-- The smallest of the lists of bits that pass a test.
use Prim.Native.Nat.{ℕ, zero, suc, ◌+◌, ◌^◌, ◌≤◌, ◌<◌}
use mathlib.Core.Path.{◌≡◌, refl, sym, ap, ◌∙◌}
use mathlib.Core.Bool.{Bool, true, false, cond}
use mathlib.Core.List.{List, [], ◌∷◌}
use native.Mathlib.Omega.{arith}
use native.Mathlib.Nat.{pow-suc}
use lib.ListN.{length}
use lib.Dec.{ltb}
use borrow.Author.Tests.{lt-ltb, le-ltb, ltb-true, ltb-false}
use Rattle.diagram.specs.Valuations.{tally}
use Rattle.diagram.proofs.Tally.{tally_zero, tally_suc, tally_same, tally_nowhere}
use Rattle.diagram.proofs.Tests.{by_test, not_both}
use Rattle.comparison.specs.Comparison.{numeral, least}

-- ---- numerals

pub numeral_nil : numeral [] ≡ 0
unfolding numeral
numeral_nil = refl

pub numeral_low : (bs : List Bool) → numeral (false ∷ bs) ≡ numeral bs
unfolding numeral
numeral_low bs = let e : 0 + numeral bs ≡ numeral bs = omega arith in e

pub numeral_high : (bs : List Bool) → numeral (true ∷ bs) ≡ 2 ^ length bs + numeral bs
unfolding numeral
numeral_high bs = refl

pub numeral_less : (bs : List Bool) → numeral bs < 2 ^ length bs
numeral_less [] = omega (arith, numeral_nil)
numeral_less (false ∷ bs) = omega (arith, numeral_low bs, numeral_less bs, pow-suc 2 (length bs))
numeral_less (true ∷ bs) = omega (arith, numeral_high bs, numeral_less bs, pow-suc 2 (length bs))

-- ---- the smallest

-- a test behind a first bit
abbrev pub behind : Bool → (List Bool → Bool) → List Bool → Bool
behind bit test bs = test (bit ∷ bs)

pub least_low : (k : ℕ) (test : List Bool → Bool) → 0 < tally k (behind false test) → least (suc k) test ≡ false ∷ least k (behind false test)
unfolding least
least_low k test h = simp (lt-ltb 0 (tally k (behind false test)) h)

pub least_high : (k : ℕ) (test : List Bool → Bool) → tally k (behind false test) ≡ 0 → least (suc k) test ≡ true ∷ least k (behind true test)
unfolding least
least_high k test e = simp (le-ltb 0 (tally k (behind false test)) (omega arith))

-- some list begins with 0, or none does
by_low {ℓ} : {C : Type ℓ} (k : ℕ) (test : List Bool → Bool) → (0 < tally k (behind false test) → C) → (tally k (behind false test) ≡ 0 → C) → C
by_low k test f g = by_test (ltb 0 (tally k (behind false test)))
    (λ t. f (ltb-true 0 (tally k (behind false test)) t))
    (λ t. let none = ltb-false 0 (tally k (behind false test)) t in g (omega arith))

pub least_length : (k : ℕ) (test : List Bool → Bool) → length (least k test) ≡ k
unfolding least
least_length zero test = refl
least_length (suc k) test = by_low k test
    (λ some. ap length (least_low k test some) ∙ ap suc (least_length k (behind false test)))
    (λ none. ap length (least_high k test none) ∙ ap suc (least_length k (behind true test)))

bit_some : (b : Bool) → 0 < cond b 1 0 → b ≡ true
bit_some true h = refl
bit_some false h = absurd (omega arith)

pub least_nil : (test : List Bool → Bool) → least zero test ≡ []
unfolding least
least_nil test = refl

pub least_passes : (k : ℕ) (test : List Bool → Bool) → 0 < tally k test → test (least k test) ≡ true
least_passes zero test h = ap test (least_nil test) ∙ bit_some (test []) (omega (arith, tally_zero test))
least_passes (suc k) test h = by_low k test
    (λ some. ap test (least_low k test some) ∙ least_passes k (behind false test) some)
    (λ none. ap test (least_high k test none) ∙ least_passes k (behind true test) (omega (arith, tally_suc k test)))

pub least_least : (k : ℕ) (test : List Bool → Bool) (cs : List Bool) → length cs ≡ k → test cs ≡ true → numeral (least k test) ≤ numeral cs
least_least zero test cs l t = omega (arith, ap numeral (least_nil test), numeral_nil)
least_least (suc k) test [] l t = absurd (omega arith)
least_least (suc k) test (false ∷ cs) l t = by_low k test
    (λ some.
    let rest = least_least k (behind false test) cs (omega arith) t in
    omega (arith, ap numeral (least_low k test some), numeral_low (least k (behind false test)), numeral_low cs))
    (λ none. absurd (not_both (test (false ∷ cs)) t (tally_nowhere k (behind false test) none cs (omega arith))))
least_least (suc k) test (true ∷ cs) l t = by_low k test
    (λ some.
    let small = numeral_less (least k (behind false test)) in
    let long = ap (λ (n : ℕ). 2 ^ n) (least_length k (behind false test)) in
    let same : length cs ≡ k = omega arith in
    omega (arith, ap numeral (least_low k test some), numeral_low (least k (behind false test)), numeral_high cs, ap (λ (n : ℕ). 2 ^ n) same))
    (λ none.
    let rest = least_least k (behind true test) cs (omega arith) t in
    let long = ap (λ (n : ℕ). 2 ^ n) (least_length k (behind true test)) in
    let same : length cs ≡ k = omega arith in
    omega (arith, ap numeral (least_high k test none), numeral_high (least k (behind true test)), numeral_high cs, ap (λ (n : ℕ). 2 ^ n) same))

-- tests that agree have the same smallest
pub least_same : (k : ℕ) (f g : List Bool → Bool) → ((bs : List Bool) → length bs ≡ k → f bs ≡ g bs) → least k f ≡ least k g
least_same zero f g h = least_nil f ∙ sym (least_nil g)
least_same (suc k) f g h =
    let low = least_same k (behind false f) (behind false g) (λ bs l. h (false ∷ bs) (ap suc l)) in
    let high = least_same k (behind true f) (behind true g) (λ bs l. h (true ∷ bs) (ap suc l)) in
    let same = tally_same k (behind false f) (behind false g) (λ bs l. h (false ∷ bs) (ap suc l)) in
    by_low k f
    (λ some. least_low k f some ∙ ap (λ (bs : List Bool). false ∷ bs) low ∙ sym (least_low k g (omega arith)))
    (λ none. least_high k f none ∙ ap (λ (bs : List Bool). true ∷ bs) high ∙ sym (least_high k g (omega arith)))

-- ---- its number, bit by bit

pub number_low : (k : ℕ) (test g : List Bool → Bool) → ((bs : List Bool) → behind false test bs ≡ g bs) → 0 < tally k g
    → numeral (least (suc k) test) ≡ numeral (least k g)
number_low k test g h some =
    let same = tally_same k (behind false test) g (λ bs l. h bs) in
    ap numeral (least_low k test (omega arith)) ∙ numeral_low (least k (behind false test)) ∙ ap numeral (least_same k (behind false test) g (λ bs l. h bs))

pub number_high : (k : ℕ) (test f g : List Bool → Bool) → ((bs : List Bool) → behind false test bs ≡ f bs) → ((bs : List Bool) → behind true test bs ≡ g bs)
    → tally k f ≡ 0 → numeral (least (suc k) test) ≡ 2 ^ k + numeral (least k g)
number_high k test f g hf hg none =
    let same = tally_same k (behind false test) f (λ bs l. hf bs) in
    let long = ap (λ (n : ℕ). 2 ^ n) (least_length k (behind true test)) in
    let rest = ap numeral (least_same k (behind true test) g (λ bs l. hg bs)) in
    omega (arith, ap numeral (least_high k test (omega arith)), numeral_high (least k (behind true test)))
