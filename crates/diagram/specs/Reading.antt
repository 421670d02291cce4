-- The reading that proofs use: level by level on the bits, with no fuel. On an ordered array it agrees with the path of
-- document 01 (`holds_is_eval` of proofs/Reading.antt).
use Rattle.std.specs.Prelude.{ℕ, suc, Bool, cond, ◌&&◌, List, [], ◌∷◌, leb, eqb}
use Rattle.diagram.specs.Diagram.{var_of, low_of, high_of}

-- Node p is no terminal and tests variable i.
unfoldable pub tests : List ℕ → ℕ → ℕ → Bool
tests w i p = leb 2 p && eqb (var_of w p) i

-- Where the path stands after variable i, which has bit b: at a child of p if p tests i, else still at p.
unfoldable pub pass : List ℕ → ℕ → ℕ → Bool → ℕ
pass w i p b = cond (tests w i p) (cond b (high_of w p) (low_of w p)) p

-- Whether the path from p ends at node 1, where the bits are those of variable i and of the ones after it.
unfoldable pub eval : List ℕ → ℕ → ℕ → List Bool → Bool
eval w i p [] = eqb p 1
eval w i p (b ∷ bs) = eval w (suc i) (pass w i p b) bs
