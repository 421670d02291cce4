-- Paths from the root to node 1, of the array as it stands (document 01, port 3): a node with low = high has two.
use Rattle.std.specs.Prelude.{ℕ, zero, suc, ◌+◌, ◌≤◌, Bool, cond, List, [], ◌∷◌, ltb, eqb}
use Rattle.diagram.specs.Diagram.{low_of, high_of, vars, root}

-- How many paths of at most k links lead from p to node 1.
unfoldable pub paths : List ℕ → ℕ → ℕ → ℕ
paths w zero p = cond (eqb p 1) 1 0
paths w (suc k) p = cond (ltb p 2) (cond (eqb p 1) 1 0) (paths w k (low_of w p) + paths w k (high_of w p))

-- Variables grow along a path, so none has more links than there are variables.
abbrev pub path_count_of : List ℕ → ℕ
path_count_of w = paths w (vars w) (root w)

-- A path from p to node 1, by its turns: at each node on the way low for 0, high for 1. `path_count_of` is the number of these
-- (Counting.antt).
pub data Path (w : List ℕ) : ℕ → List Bool → Type 0 where
  arrived : Path w 1 []
  turn : {p : ℕ} {bs : List Bool} → 2 ≤ p → (b : Bool) → Path w (cond b (high_of w p) (low_of w p)) bs → Path w p (b ∷ bs)
