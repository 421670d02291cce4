-- Counting valuations (document 01: "counts are over all 2^v valuations, skipped variables included"), and the nodes that
-- a path meets.
use Rattle.std.specs.Prelude.{ℕ, zero, suc, ◌+◌, Bool, true, false, cond, ◌&&◌, List, [], ◌∷◌, eqb}
use Rattle.diagram.specs.Diagram.{vars, root, walk, holds}
use Rattle.diagram.specs.Verdict.{any}

-- How many of the 2^k lists of k bits pass a test: those that begin with 0, and those that begin with 1.
unfoldable pub tally : ℕ → (List Bool → Bool) → ℕ
tally zero test = cond (test []) 1 0
tally (suc k) test = tally k (λ bs. test (false ∷ bs)) + tally k (λ bs. test (true ∷ bs))

-- How many valuations a diagram holds for.
abbrev pub count_of : List ℕ → ℕ
count_of w = tally (vars w) (holds w)

-- A valuation's path meets a node that passes a test: it stands at one after some number of steps, the root at first.
unfoldable pub meets : List ℕ → List Bool → (ℕ → Bool) → Bool
meets w bs test = any (suc (vars w)) (λ k. test (walk w bs k (root w)))

-- A node's weight (document 01, port order 6): how many valuations that the diagram holds for have a path that visits it.
abbrev pub weight_of : List ℕ → ℕ → ℕ
weight_of w p = tally (vars w) (λ bs. holds w bs && meets w bs (eqb p))
