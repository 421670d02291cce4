-- What a sorted list without repeats is, beside the sorting of Search.antt.
use Rattle.std.specs.Prelude.{ℕ, ◌≡◌, Bool, true, false, List, [], ◌∷◌}
use Rattle.approximation.specs.Cut.{listed}

-- Each number is there once.
pub data Distinct : List ℕ → Type 0 where
  none : Distinct []
  more : {p : ℕ} {s : List ℕ} → listed s p ≡ false → Distinct s → Distinct (p ∷ s)

-- Each goes before all later ones.
pub data Sorted (goes : ℕ → ℕ → Bool) : List ℕ → Type 0 where
  none : Sorted goes []
  more : {p : ℕ} {s : List ℕ} → ((q : ℕ) → listed s q ≡ true → goes p q ≡ true) → Sorted goes s → Sorted goes (p ∷ s)
