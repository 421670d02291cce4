-- Nodes in a list, and their weights summed, for what the weights of several nodes say and don't say.
use Rattle.std.specs.Prelude.{ℕ, ◌+◌, Bool, false, ◌&&◌, ◌||◌, List, [], ◌∷◌, eqb}
use Rattle.diagram.specs.Diagram.{vars, holds}
use Rattle.diagram.specs.Valuations.{tally, meets, weight_of}

-- A node stands in the list.
unfoldable pub among : List ℕ → ℕ → Bool
among [] q = false
among (p ∷ ps) q = eqb p q || among ps q

-- The sum of their weights.
unfoldable pub sum_of : List ℕ → List ℕ → ℕ
sum_of w [] = 0
sum_of w (p ∷ ps) = weight_of w p + sum_of w ps

-- How many valuations that the diagram holds for have a path that visits one of them: each valuation counts once.
abbrev pub visited_by : List ℕ → List ℕ → ℕ
visited_by w ps = tally (vars w) (λ bs. holds w bs && meets w bs (among ps))
