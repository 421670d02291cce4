-- The marks of what slots and links name, in local words. Auxiliary: no promise to a caller names these. The mark of a place stands at
-- its name, which is its successor, as in a slot; so what an empty slot names, 0, has a word of its own, and nobody reads it.
use Rattle.std.specs.Prelude.{ℕ, suc, ◌<◌, ◌≡◌, Bool, false, not, ◌||◌, List, length, get_or, eqb}
use Rattle.diagram.specs.Limits.{max_nodes}
use Rattle.diagram.specs.Diagram.{size}
use Rattle.diagram.specs.Verdict.{any, is_child}

-- The place has no mark.
abbrev pub is_bare : List ℕ → ℕ → Bool
is_bare m p = eqb (get_or m (suc p) 0) 0

-- Exactly the places that pass a test have a mark.
pub record Marks (test : ℕ → Bool) (m : List ℕ) : Type 0 where
  pub long : max_nodes < length m
  pub each : (p : ℕ) → p < max_nodes → is_bare m p ≡ not (test p)

abbrev pub nowhere : ℕ → Bool
nowhere p = false

-- One of the first k slots names the place; one of the first n places has it for a child.
abbrev pub is_named : List ℕ → ℕ → ℕ → Bool
is_named s k p = any k (λ j. eqb (get_or s j 0) (suc p))

abbrev pub is_linked : List ℕ → ℕ → ℕ → Bool
is_linked t n p = any n (λ q. is_child t q p)

-- The children of all nodes get their marks, whatever has one before.
pub record Links (t m m' : List ℕ) : Type 0 where
  pub adds : (test : ℕ → Bool) → Marks test m → Marks (λ p. test p || is_linked t (size t) p) m'
