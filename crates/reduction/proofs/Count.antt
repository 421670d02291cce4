-- How many numbers below a bound pass a test, and what one more mark does to that.
use Prim.Native.Nat.{ℕ, zero, suc, ◌+◌, ◌≤◌, ◌<◌, max}
use mathlib.Core.Path.{◌≡◌, refl, sym, ◌∙◌}
use mathlib.Core.Bool.{Bool, true, false, cond}
use native.Mathlib.Omega.{arith}
use native.Mathlib.Decide.{ℕ_discrete}
use lib.Dec.{eqb, leb}
use borrow.Author.Tests.{eq-eqb, ne_eqb, le-leb, lt-leb}
use Rattle.diagram.proofs.Reading.{by_two}

-- How many of the numbers below n pass a test.
unfoldable pub count : ℕ → (ℕ → Bool) → ℕ
count zero m = zero
count (suc n) m = cond (m n) (suc (count n m)) (count n m)

count_yes : (n : ℕ) (m : ℕ → Bool) → m n ≡ true → count (suc n) m ≡ suc (count n m)
unfolding count
count_yes n m e = rw e refl

count_no : (n : ℕ) (m : ℕ → Bool) → m n ≡ false → count (suc n) m ≡ count n m
unfolding count
count_no n m e = rw e refl

count_zero : (m : ℕ → Bool) → count zero m ≡ 0
unfolding count
count_zero m = refl

-- A test passes or fails.
pub by_test : {P : Type 0} (b : Bool) → (b ≡ true → P) → (b ≡ false → P) → P
by_test true f g = f refl
by_test false f g = g refl

pub count_mono : (n : ℕ) (m l : ℕ → Bool) → ((q : ℕ) → q < n → m q ≡ true → l q ≡ true) → count n m ≤ count n l
count_mono zero m l h = let a = count_zero m in omega arith
count_mono (suc n) m l h =
    let rest = count_mono n m l (λ q in-n. h q (omega arith)) in
    by_test (m n)
    (λ e. let a = count_yes n m e in let b = count_yes n l (h n (omega arith) e) in omega arith)
    (λ e. let a = count_no n m e in by_test (l n)
    (λ d. let b = count_yes n l d in omega arith) (λ d. let b = count_no n l d in omega arith))

-- All but the terminals.
pub count_nodes : (n : ℕ) → 2 + count n (leb 2) ≡ max n 2
count_nodes zero = let e = count_zero (leb 2) in omega arith
count_nodes (suc n) =
    let rest = count_nodes n in
    by_two n
    (λ t. let e = count_no n (leb 2) (lt-leb 2 n t) in omega arith)
    (λ two. let e = count_yes n (leb 2) (le-leb 2 n two) in omega arith)

-- One more mark.
unfoldable pub marked : (ℕ → Bool) → ℕ → ℕ → Bool
marked m p q = cond (eqb q p) true (m q)

pub marked_same : (m : ℕ → Bool) (p : ℕ) → marked m p p ≡ true
unfolding marked
marked_same m p = simp (eq-eqb p p refl)

pub marked_other : (m : ℕ → Bool) (p q : ℕ) → (q ≡ p → ⊥) → marked m p q ≡ m q
unfolding marked
marked_other m p q ne = simp (ne_eqb q p ne)

count_out : (n : ℕ) (m : ℕ → Bool) (p : ℕ) → n ≤ p → count n (marked m p) ≡ count n m
count_out zero m p h = count_zero (marked m p) ∙ sym (count_zero m)
count_out (suc n) m p h =
    let rest = count_out n m p (omega arith) in
    let here : marked m p n ≡ m n = marked_other m p n (omega arith) in
    by_test (m n)
    (λ e. let a = count_yes n (marked m p) (here ∙ e) in let b = count_yes n m e in omega arith)
    (λ e. let a = count_no n (marked m p) (here ∙ e) in let b = count_no n m e in omega arith)

pub count_mark : (n : ℕ) (m : ℕ → Bool) (p : ℕ) → p < n → m p ≡ false → count n (marked m p) ≡ suc (count n m)
count_mark zero m p h e = absurd (omega arith)
count_mark (suc n) m p h e = elim (ℕ_discrete n p) [
  | yes q ↦
      let a = count_yes n (marked m p) (rw q (marked_same m p)) in
      let b = count_no n m (rw q e) in
      let c = count_out n m p (omega arith) in
      omega arith
  | no q ↦
      let rest = count_mark n m p (omega arith) e in
      let here : marked m p n ≡ m n = marked_other m p n q in
      by_test (m n)
      (λ d. let a = count_yes n (marked m p) (here ∙ d) in let b = count_yes n m d in omega arith)
      (λ d. let a = count_no n (marked m p) (here ∙ d) in let b = count_no n m d in omega arith)
]
