-- What the checks of a target say: from below, or where `above` says so from above. No promise to a caller names it.
use Rattle.std.specs.Prelude.{ℕ, ◌≡◌, Bool, cond, ◌&&◌, ◌||◌, List, ltb, eqb}
use Rattle.diagram.specs.Diagram.{low_of, high_of, size, vars, Accepted}
use Rattle.diagram.specs.Valuations.{count_of}
use Rattle.diagram.specs.Verdict.{Outcome, accepted}
use Rattle.approximation.specs.Cut.{under_size_of, over_size_of, under_count_of, over_count_of}

-- 16 and 19.
abbrev pub count_told_of : Bool → List ℕ → ℕ → Outcome
count_told_of above w k = cond above (over_count_of w k) (under_count_of w k)

-- 18.
abbrev pub size_told_of : Bool → List ℕ → ℕ → Outcome
size_told_of above w t = cond above (over_size_of w t) (under_size_of w t)

-- The test of its row, either way.
unfoldable pub too_small : Bool → List ℕ → ℕ → Bool
too_small above w t = eqb t 0 || (above && (eqb t 1 && ltb 0 (count_of w)))

-- A node has a link to node 1.
unfoldable pub to_one : List ℕ → ℕ → Bool
to_one w p = eqb (low_of w p) 1 || eqb (high_of w p) 1

-- What the check has said of w: where that is an acceptance, w is accepted, and these are its counts.
abbrev pub Passed : List ℕ → Outcome → Type 0
Passed w o = (n v : ℕ) → o ≡ accepted n v → Accepted w × (n ≡ size w) × (v ≡ vars w)
