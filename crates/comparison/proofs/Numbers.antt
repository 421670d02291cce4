-- How many things have a property: there is one such number.
use Prim.Native.Nat.{ℕ, suc, ◌≤◌}
use mathlib.Core.Path.{◌≡◌, refl, ap, subst}
use mathlib.Core.Logic.{◌⊎◌, inl, inr, ⊎_elim}
use mathlib.Core.List.{List, [], ◌∷◌}
use native.Mathlib.Omega.{arith}
use lib.ListN.{length}
use Rattle.counts.specs.Counting.{In, here, there, Once, more, Number}

-- a list without one of its entries
without : {A : Type 0} {x : A} (l : List A) → In x l → List A
without {A = A} [] x' = elim x' [ ]
without (y ∷ l) here = l
without (y ∷ l) (there i) = y ∷ without l i

without_length : {A : Type 0} {x : A} (l : List A) (i : In x l) → length l ≡ suc (length (without l i))
unfolding without
without_length {A = A} [] i = elim i [ ]
without_length (y ∷ l) here = refl
without_length (y ∷ l) (there i) = ap suc (without_length l i)

-- any entry is that one, or is still there
without_other : {A : Type 0} {x y : A} (l : List A) (i : In x l) → In y l → (y ≡ x) ⊎ In y (without l i)
unfolding without
without_other {A = A} {y = y} [] i _ = elim i [ ]
without_other (z ∷ l) here here = inl refl
without_other (z ∷ l) here (there j) = inr j
without_other (z ∷ l) (there i) here = inr here
without_other (z ∷ l) (there i) (there j) = ⊎_elim inl (λ k. inr (there k)) (without_other l i j)

-- a list that has no entry twice, and only entries of another, is no longer
once_shorter : {A : Type 0} (l m : List A) → Once l → ((x : A) → In x l → In x m) → length l ≤ length m
once_shorter [] m o h = omega arith
once_shorter {A} (x ∷ l) m (more new o) h =
    let i = h x here in
    let rest = once_shorter l (without m i) o
    (λ y j. ⊎_elim (λ e. absurd (new (subst (λ (z : A). In z l) e j))) (λ k. k) (without_other m i (h y (there j)))) in
    omega (arith, without_length m i)

pub number_once : {A : Type 0} {P : A → Type 0} {m n : ℕ} → Number P m → Number P n → m ≡ n
number_once x y =
    let there-too = once_shorter x.list y.list x.once (λ z i. y.all z (x.right z i)) in
    let here-too = once_shorter y.list x.list y.once (λ z i. x.all z (y.right z i)) in
    omega (arith, x.count, y.count)

-- the same property in other words
pub number_as : {A : Type 0} {P Q : A → Type 0} {n : ℕ} → ((x : A) → P x → Q x) → ((x : A) → Q x → P x) → Number P n → Number Q n
number_as f g k = record {
  list = k.list;
  count = k.count;
  once = k.once;
  right = λ x i. f x (k.right x i);
  all = λ x q. k.all x (g x q);
}
