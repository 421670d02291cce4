-- Words compared byte by byte.
use Prim.Native.Nat.{ℕ, suc}
use mathlib.Core.Path.{◌≡◌, refl, sym, ap, ap₂}
use mathlib.Core.Bool.{Bool, true, false, ◌&&◌, true≢false}
use mathlib.Core.List.{List, [], ◌∷◌}
use mathlib.Core.Logic.{◌≢◌}
use lib.ListN.{length}
use lib.Dec.{eqb}
use borrow.Author.Tests.{eq-eqb, eqb-true}
use Rattle.std.specs.Cmp.Lexicographic.{pointwise}
use Rattle.request.specs.Request.{alike}

-- Words of different lengths differ.
pub unlike_lengths : (a b : List ℕ) → length a ≢ length b → false ≡ alike a b
unfolding alike
unlike_lengths [] [] h = absurd (h refl)
unlike_lengths [] (y ∷ ys) h = refl
unlike_lengths (x ∷ xs) [] h = refl
unlike_lengths (x ∷ xs) (y ∷ ys) h = under_and (eqb x y) (unlike_lengths xs ys (λ e. h (ap suc e)))
  where
    under_and : (t : Bool) {u : Bool} → false ≡ u → false ≡ (t && u)
    under_and true e = e
    under_and false e = refl

-- Alike is equal.
pub alike_same : (a b : List ℕ) → alike a b ≡ true → a ≡ b
unfolding alike
alike_same [] [] e = refl
alike_same [] (y ∷ ys) e = absurd (true≢false (sym e))
alike_same (x ∷ xs) [] e = absurd (true≢false (sym e))
alike_same (x ∷ xs) (y ∷ ys) e = next (eqb x y) refl (alike_same xs ys) e
  where
    next : (t : Bool) → eqb x y ≡ t → (alike xs ys ≡ true → xs ≡ ys) → (t && alike xs ys) ≡ true → (x ∷ xs) ≡ (y ∷ ys)
    next true f rest g = ap₂ (λ (h : ℕ) (l : List ℕ). h ∷ l) (eqb-true x y f) (rest g)
    next false f rest g = absurd (true≢false (sym g))

pub same_alike : (a : List ℕ) → alike a a ≡ true
unfolding alike
same_alike [] = refl
same_alike (x ∷ xs) = rw (eq-eqb x x refl) (same_alike xs)

-- It is what `==` says of two slices.
pub pointwise_alike : (a b : List ℕ) → pointwise eqb a b ≡ alike a b
unfolding alike
pointwise_alike [] [] = refl
pointwise_alike [] (y ∷ ys) = refl
pointwise_alike (x ∷ xs) [] = refl
pointwise_alike (x ∷ xs) (y ∷ ys) = rw (pointwise_alike xs ys) refl
