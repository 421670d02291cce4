-- Tables of numbers in lent words, one for each node, from a base on. Auxiliary: no promise to a caller names these.
use Rattle.std.specs.Prelude.{ℕ, ◌+◌, ◌-◌, ◌*◌, ◌^◌, ◌≤◌, ◌<◌, ◌≡◌, ◌≢◌, List, length, get_or, take, drop}
use Rattle.naturals.specs.Natural.{value, word_count, Holds}
use Rattle.diagram.specs.Diagram.{var_of}

-- Entry q of a table that begins at a base, and the number that it holds.
abbrev pub entry : ℕ → List ℕ → ℕ → List ℕ
entry base s q = take word_count (drop (base + word_count * q) s)

abbrev pub num : ℕ → List ℕ → ℕ → ℕ
num base s q = value (entry base s q)

-- Entry q is in the table.
abbrev pub In : ℕ → List ℕ → ℕ → Type 0
In base s q = base + word_count * q + word_count ≤ length s

-- Entry q holds x now; all else is as it was.
pub record Noted (base : ℕ) (s : List ℕ) (q x : ℕ) (after : List ℕ) : Type 0 where
  pub size : length after ≡ length s
  pub here : Holds x (entry base after q)
  pub other : (r : ℕ) → r ≢ q → entry base after r ≡ entry base s r
  pub before : (k : ℕ) → k < base → get_or after k 0 ≡ get_or s k 0
  pub beyond : (m : ℕ) → base + word_count * q + word_count ≤ m → drop m after ≡ drop m s

-- The variables that the link from p to q skips: each doubles.
abbrev pub skip : List ℕ → ℕ → ℕ → ℕ
skip w p q = var_of w q - var_of w p - 1

abbrev pub scaled : List ℕ → ℕ → ℕ → ℕ → ℕ
scaled w p q x = x * 2 ^ skip w p q
