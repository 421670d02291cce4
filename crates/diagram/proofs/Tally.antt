-- Counting the lists of k bits that pass a test.
use Prim.Native.Nat.{ℕ, zero, suc, ◌+◌, ◌^◌, ◌≤◌}
use mathlib.Core.Path.{◌≡◌, refl, sym, ap, ◌∙◌}
use mathlib.Core.Bool.{Bool, true, false, cond, not, ◌||◌}
use mathlib.Core.List.{List, [], ◌∷◌}
use native.Mathlib.Omega.{arith}
use native.Mathlib.Nat.{pow-suc}
use lib.ListN.{length}
use Rattle.diagram.specs.Valuations.{tally}

pub tally_zero : (f : List Bool → Bool) → tally zero f ≡ cond (f []) 1 0
unfolding tally
tally_zero f = refl

pub tally_suc : (k : ℕ) (f : List Bool → Bool) → tally (suc k) f ≡ tally k (λ bs. f (false ∷ bs)) + tally k (λ bs. f (true ∷ bs))
unfolding tally
tally_suc k f = refl

-- two tests that agree
pub tally_same : (k : ℕ) (f g : List Bool → Bool) → ((bs : List Bool) → length bs ≡ k → f bs ≡ g bs) → tally k f ≡ tally k g
tally_same zero f g h = tally_zero f ∙ ap (λ (b : Bool). cond b 1 0) (h [] refl) ∙ sym (tally_zero g)
tally_same (suc k) f g h =
    let a = tally_same k (λ bs. f (false ∷ bs)) (λ bs. g (false ∷ bs)) (λ bs l. h (false ∷ bs) (ap suc l)) in
    let b = tally_same k (λ bs. f (true ∷ bs)) (λ bs. g (true ∷ bs)) (λ bs l. h (true ∷ bs) (ap suc l)) in
    omega (arith, tally_suc k f, tally_suc k g)

one_bit : (b : Bool) → cond b 1 0 ≤ 1
one_bit true = omega arith
one_bit false = omega arith

pub tally_most : (k : ℕ) (f : List Bool → Bool) → tally k f ≤ 2 ^ k
tally_most zero f = omega (arith, tally_zero f, one_bit (f []))
tally_most (suc k) f =
    omega (arith, tally_suc k f, tally_most k (λ bs. f (false ∷ bs)), tally_most k (λ bs. f (true ∷ bs)), pow-suc 2 k)

one_of_two : (b : Bool) → cond (not b) 1 0 + cond b 1 0 ≡ 1
one_of_two true = refl
one_of_two false = refl

-- a test and its opposite share out all lists
pub tally_not : (k : ℕ) (f : List Bool → Bool) → tally k (λ bs. not (f bs)) + tally k f ≡ 2 ^ k
tally_not zero f = omega (arith, tally_zero f, tally_zero (λ bs. not (f bs)), one_of_two (f []))
tally_not (suc k) f =
    let a = tally_not k (λ bs. f (false ∷ bs)) in
    let b = tally_not k (λ bs. f (true ∷ bs)) in
    omega (arith, tally_suc k f, tally_suc k (λ bs. not (f bs)), pow-suc 2 k)

-- a test that no list passes
pub tally_none : (k : ℕ) (f : List Bool → Bool) → ((bs : List Bool) → length bs ≡ k → f bs ≡ false) → tally k f ≡ 0
tally_none zero f h = tally_zero f ∙ ap (λ (b : Bool). cond b 1 0) (h [] refl)
tally_none (suc k) f h =
    let a = tally_none k (λ bs. f (false ∷ bs)) (λ bs l. h (false ∷ bs) (ap suc l)) in
    let b = tally_none k (λ bs. f (true ∷ bs)) (λ bs l. h (true ∷ bs) (ap suc l)) in
    omega (arith, tally_suc k f)

bit_none : (b : Bool) → ◌≡◌ {A = ℕ} (cond b 1 0) 0 → b ≡ false
bit_none true e = absurd (omega arith)
bit_none false e = refl

-- and a tally of none: no list passes
pub tally_nowhere : (k : ℕ) (f : List Bool → Bool) → tally k f ≡ 0 → (bs : List Bool) → length bs ≡ k → f bs ≡ false
tally_nowhere zero f e [] l = bit_none (f []) (sym (tally_zero f) ∙ e)
tally_nowhere zero f e (b ∷ bs) l = absurd (omega arith)
tally_nowhere (suc k) f e [] l = absurd (omega arith)
tally_nowhere (suc k) f e (false ∷ bs) l = tally_nowhere k (λ cs. f (false ∷ cs)) (omega (arith, tally_suc k f)) bs (omega arith)
tally_nowhere (suc k) f e (true ∷ bs) l = tally_nowhere k (λ cs. f (true ∷ cs)) (omega (arith, tally_suc k f)) bs (omega arith)

one_or_other : (a b : Bool) → cond (a || b) 1 0 ≤ cond a 1 0 + cond b 1 0
one_or_other true b = omega arith
one_or_other false b = omega arith

-- those that pass one of two tests are at most those that pass the first and those that pass the second
pub tally_or : (k : ℕ) (f g : List Bool → Bool) → tally k (λ bs. f bs || g bs) ≤ tally k f + tally k g
tally_or zero f g = omega (arith, tally_zero f, tally_zero g, tally_zero (λ bs. f bs || g bs), one_or_other (f []) (g []))
tally_or (suc k) f g =
    let a = tally_or k (λ bs. f (false ∷ bs)) (λ bs. g (false ∷ bs)) in
    let b = tally_or k (λ bs. f (true ∷ bs)) (λ bs. g (true ∷ bs)) in
    omega (arith, tally_suc k f, tally_suc k g, tally_suc k (λ bs. f bs || g bs))

-- a test that passes wherever another does
bit_more : (a b : Bool) → (a ≡ true → b ≡ true) → cond a 1 0 ≤ cond b 1 0
bit_more false b h = omega arith
bit_more true b h = rw (h refl) (omega arith)

pub tally_mono : (k : ℕ) (f g : List Bool → Bool) → ((bs : List Bool) → length bs ≡ k → f bs ≡ true → g bs ≡ true) → tally k f ≤ tally k g
tally_mono zero f g h = omega (arith, tally_zero f, tally_zero g, bit_more (f []) (g []) (h [] refl))
tally_mono (suc k) f g h =
    let a = tally_mono k (λ bs. f (false ∷ bs)) (λ bs. g (false ∷ bs)) (λ bs l. h (false ∷ bs) (ap suc l)) in
    let b = tally_mono k (λ bs. f (true ∷ bs)) (λ bs. g (true ∷ bs)) (λ bs l. h (true ∷ bs) (ap suc l)) in
    omega (arith, tally_suc k f, tally_suc k g)
