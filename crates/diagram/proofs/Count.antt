-- Counting the numbers that pass a test, and the first one that does.
use Prim.Native.Nat.{ℕ, zero, suc, ◌+◌, ◌≤◌, ◌<◌}
use mathlib.Core.Path.{◌≡◌, refl, sym, ◌∙◌, ap}
use mathlib.Core.Bool.{Bool, true, false}
use mathlib.Core.Logic.{◌⊎◌, inl, inr}
use native.Mathlib.Omega.{arith}
use Rattle.diagram.specs.Verdict.{any, first}
use Rattle.diagram.specs.Marking.{count}
use Rattle.diagram.proofs.Tests.{by_test, by-eq, not_both, or_left, or_right, or_cases, cond-true, cond-false}

pub count_hit : (n : ℕ) (t : ℕ → Bool) → t n ≡ true → count (suc n) t ≡ suc (count n t)
unfolding count
count_hit n t e = cond-true (t n) (suc (count n t)) (count n t) e

pub count_miss : (n : ℕ) (t : ℕ → Bool) → t n ≡ false → count (suc n) t ≡ count n t
unfolding count
count_miss n t e = cond-false (t n) (suc (count n t)) (count n t) e

count_zero : (t : ℕ → Bool) → count zero t ≡ zero
unfolding count
count_zero t = refl

pub count_most : (n : ℕ) (t : ℕ → Bool) → count n t ≤ n
count_most zero t = omega (arith, count_zero t)
count_most (suc n) t =
    let h = count_most n t in
    by_test (t n) (λ e. omega (arith, count_hit n t e)) (λ e. omega (arith, count_miss n t e))

pub count_some : (n : ℕ) (t : ℕ → Bool) (q : ℕ) → q < n → t q ≡ true → 0 < count n t
count_some zero t q l e = absurd (omega arith)
count_some (suc n) t q l e =
    by_test (t n)
    (λ a. omega (arith, count_hit n t a))
    (λ a.
    by-eq q n
    (λ x. absurd (not_both (t n) (sym (ap t x) ∙ e) a))
    (λ x. let h = count_some n t q (omega arith) e in omega (arith, count_miss n t a)))

-- two tests that agree below n are passed equally often
pub count_same : (n : ℕ) (f g : ℕ → Bool) → ((p : ℕ) → p < n → f p ≡ g p) → count n f ≡ count n g
count_same zero f g h = count_zero f ∙ sym (count_zero g)
count_same (suc n) f g h =
    let i = count_same n f g (λ p l. h p (omega arith)) in
    let s = h n (omega arith) in
    by_test (f n)
    (λ e. count_hit n f e ∙ ap suc i ∙ sym (count_hit n g (sym s ∙ e)))
    (λ e. count_miss n f e ∙ i ∙ sym (count_miss n g (sym s ∙ e)))

-- one number less passes
pub count_less : (n : ℕ) (f g : ℕ → Bool) (q : ℕ) → q < n → f q ≡ true → g q ≡ false
    → ((p : ℕ) → p < n → (p ≡ q → ⊥) → f p ≡ g p) → count n f ≡ suc (count n g)
count_less zero f g q l e d h = absurd (omega arith)
count_less (suc n) f g q l e d h =
    by-eq n q
    (λ x. count_hit n f (ap f x ∙ e) ∙ ap suc (count_same n f g (λ p m. h p (omega arith) (λ y. omega arith)) ∙ sym (count_miss n g (ap g x ∙ d))))
    (λ x.
    let i = count_less n f g q (omega arith) e d (λ p m. h p (omega arith)) in
    let s = h n (omega arith) x in
    by_test (f n)
    (λ a. count_hit n f a ∙ ap suc (i ∙ sym (count_hit n g (sym s ∙ a))))
    (λ a. count_miss n f a ∙ i ∙ ap suc (sym (count_miss n g (sym s ∙ a)))))

-- of two tests, the first included in the second: they agree below n, or the second is passed more often
pub count_grows : (n : ℕ) (f g : ℕ → Bool) → ((p : ℕ) → p < n → f p ≡ true → g p ≡ true)
    → ((p : ℕ) → p < n → g p ≡ true → f p ≡ true) ⊎ (count n f < count n g)
count_grows zero f g h = inl (λ p l e. absurd (omega arith))
count_grows (suc n) f g h = go (count_grows n f g (λ p l. h p (omega arith)))
  where
    more : count n f ≤ count n g → f n ≡ false → g n ≡ true → count (suc n) f < count (suc n) g
    more i a b = omega (arith, count_miss n f a, count_hit n g b)

    same_step : count n f < count n g → count (suc n) f < count (suc n) g
    same_step i =
        by_test (f n)
        (λ a. omega (arith, count_hit n f a, count_hit n g (h n (omega arith) a)))
        (λ a. by_test (g n)
        (λ b. omega (arith, count_miss n f a, count_hit n g b))
        (λ b. omega (arith, count_miss n f a, count_miss n g b)))

    all : ((p : ℕ) → p < n → g p ≡ true → f p ≡ true) → (g n ≡ true → f n ≡ true) → (p : ℕ) → p < suc n → g p ≡ true → f p ≡ true
    all i k p l e = by-eq p n (λ x. ap f x ∙ k (sym (ap g x) ∙ e)) (λ x. i p (omega arith) e)

    agree : ((p : ℕ) → p < n → g p ≡ true → f p ≡ true) → count n f ≡ count n g
    agree i = count_same n f g (λ p l. by_test (f p) (λ a. a ∙ sym (h p (omega arith) a)) (λ a. by_test (g p) (λ b. absurd (not_both (f p) (i p l b) a)) (λ b. a ∙ sym b)))

    go : ((p : ℕ) → p < n → g p ≡ true → f p ≡ true) ⊎ (count n f < count n g)
        → ((p : ℕ) → p < suc n → g p ≡ true → f p ≡ true) ⊎ (count (suc n) f < count (suc n) g)
    go (inl i) =
        by_test (f n)
        (λ a. inl (all i (λ b. a)))
        (λ a. by_test (g n)
        (λ b. let q = agree i in inr (more (omega arith) a b))
        (λ b. inl (all i (λ c. absurd (not_both (g n) c b)))))
    go (inr i) = inr (same_step i)

-- some number below n passes a test
pub any_intro : (n : ℕ) (t : ℕ → Bool) (q : ℕ) → q < n → t q ≡ true → any n t ≡ true
unfolding any
any_intro zero t q l e = absurd (omega arith)
any_intro (suc n) t q l e =
    by-eq q n
    (λ x. or_right (any n t) (t n) (sym (ap t x) ∙ e))
    (λ x. or_left (any n t) (t n) (any_intro n t q (omega arith) e))

pub any_elim : (n : ℕ) (t : ℕ → Bool) → any n t ≡ true → (q : ℕ) × (q < n) × (t q ≡ true)
unfolding any
any_elim zero t e = absurd (not_both false e refl)
any_elim (suc n) t e =
    or_cases (any n t) (t n) e
    (λ a. let r = any_elim n t a in (r.0, omega arith, r.2))
    (λ a. (n, omega arith, a))

-- the first of the k numbers from a on that passes: none below it does, and it does unless it is the end
pub first_is : (t : ℕ → Bool) (a k i : ℕ) → a ≤ i → i ≤ a + k → ((p : ℕ) → a ≤ p → p < i → t p ≡ false)
    → (i < a + k → t i ≡ true) → first t a k ≡ i
unfolding first
first_is t a zero i l m below hit = omega arith
first_is t a (suc k) i l m below hit =
    by-eq a i
    (λ x. cond-true (t a) a (first t (suc a) k) (ap t x ∙ hit (omega arith)) ∙ x)
    (λ x.
    cond-false (t a) a (first t (suc a) k) (below a (omega arith) (omega arith))
    ∙ first_is t (suc a) k i (omega arith) (omega arith) (λ p u v. below p (omega arith) v) (λ u. hit (omega arith)))

-- it lies from a on, and not past the end
pub first_from : (t : ℕ → Bool) (a k : ℕ) → (a ≤ first t a k) × (first t a k ≤ a + k)
unfolding first
first_from t a zero = omega arith
first_from t a (suc k) =
    let i = first_from t (suc a) k in
    by_test (t a)
    (λ e. rw e (omega arith))
    (λ e. rw e (omega (arith, i.0, i.1)))

-- none before it passes, and it does unless it is the end
pub first_least : (t : ℕ → Bool) (a k q : ℕ) → a ≤ q → q < first t a k → t q ≡ false
unfolding first
first_least t a zero q l m = absurd (omega arith)
first_least t a (suc k) q l m =
    by_test (t a)
    (λ e. let m' : q < a = rw e at m in absurd (omega arith))
    (λ e. let m' : q < first t (suc a) k = rw e at m in by-eq q a (λ x. ap t x ∙ e) (λ x. first_least t (suc a) k q (omega arith) m'))

pub first_passes : (t : ℕ → Bool) (a k : ℕ) → first t a k < a + k → t (first t a k) ≡ true
unfolding first
first_passes t a zero l = absurd (omega arith)
first_passes t a (suc k) l =
    by_test (t a)
    (λ e. rw e e)
    (λ e. let l' : first t (suc a) k < a + suc k = rw e at l in rw e (first_passes t (suc a) k (omega arith)))

-- two tests that agree on them
pub first_same : (t s : ℕ → Bool) (a k : ℕ) → ((p : ℕ) → a ≤ p → p < a + k → t p ≡ s p) → first t a k ≡ first s a k
unfolding first
first_same t s a zero h = refl
first_same t s a (suc k) h =
    let i = first_same t s (suc a) k (λ p l m. h p (omega arith) (omega arith)) in
    rw (h a (omega arith) (omega arith), i)

-- a test on numbers c higher
pub first_shift : (t s : ℕ → Bool) (c a k : ℕ) → ((p : ℕ) → a ≤ p → p < a + k → t (c + p) ≡ s p) → first t (c + a) k ≡ c + first s a k
unfolding first
first_shift t s c a zero h = refl
first_shift t s c a (suc k) h =
    let e : c + suc a ≡ suc (c + a) = omega arith in
    let i = rw e at (first_shift t s c (suc a) k (λ p l m. h p (omega arith) (omega arith))) in
    by_test (s a)
    (λ x. cond-true (t (c + a)) (c + a) _ (h a (omega arith) (omega arith) ∙ x) ∙ ap (λ (y : ℕ). c + y) (sym (cond-true (s a) a _ x)))
    (λ x. cond-false (t (c + a)) (c + a) _ (h a (omega arith) (omega arith) ∙ x) ∙ i ∙ ap (λ (y : ℕ). c + y) (sym (cond-false (s a) a _ x)))

-- a scan from a on, which has come to p
pub record Scanned (t : ℕ → Bool) (a p : ℕ) : Type 0 where
  pub from : a ≤ p
  pub none : (q : ℕ) → a ≤ q → q < p → t q ≡ false

pub scan_start : (t : ℕ → Bool) (a : ℕ) → Scanned t a a
scan_start t a = record { from = omega arith; none = λ q l m. absurd (omega arith) }

pub scan_on : (t : ℕ → Bool) (a p : ℕ) → Scanned t a p → t p ≡ false → Scanned t a (p + 1)
scan_on t a p s e =
    record {
      from = omega (arith, s.from);
      none = λ q l m. by-eq q p (λ x. ap t x ∙ e) (λ x. s.none q l (omega arith));
    }

pub scan_hit : (t : ℕ → Bool) (a k p : ℕ) → Scanned t a p → p < a + k → t p ≡ true → p ≡ first t a k
scan_hit t a k p s l e = sym (first_is t a k p s.from (omega arith) s.none (λ x. e))

pub scan_end : (t : ℕ → Bool) (a k p : ℕ) → Scanned t a p → p ≡ a + k → p ≡ first t a k
scan_end t a k p s l = sym (first_is t a k p s.from (omega arith) s.none (λ x. absurd (omega arith)))
