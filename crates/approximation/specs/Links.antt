-- A diagram with its links sent elsewhere.
use Rattle.std.specs.Prelude.{ℕ, zero, suc, ◌%◌, cond, ◌||◌, List, [], ◌∷◌, length, get_or, ltb, eqb}

-- What f says of the k numbers from a on, as a list.
unfoldable pub table : (ℕ → ℕ) → ℕ → ℕ → List ℕ
table f a zero = []
table f a (suc k) = f a ∷ table f (suc a) k

-- The same words with the links of all nodes but the terminals sent to where f says.
unfoldable pub relinked : (ℕ → ℕ) → List ℕ → List ℕ
relinked f w = table (λ j. cond (ltb j 6 || eqb (j % 3) 0) (get_or w j 0) (f (get_or w j 0))) 0 (length w)
