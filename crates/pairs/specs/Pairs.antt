-- Pairs of nodes of two diagrams a and b (document 02, E1): "it walks pairs of nodes from the two roots: the side with the smaller
-- variable steps, both if equal, until both are terminals".
use Rattle.std.specs.Prelude.{ℕ, zero, suc, ◌*◌, ◌≤◌, min, ◌⊎◌, Bool, true, false, cond, ◌&&◌, ◌||◌, List, [], ◌∷◌, ◌++◌, length, eqb, ltb}
use Rattle.diagram.specs.Limits.{max_nodes}
use Rattle.diagram.specs.Diagram.{var_of, vars, root}
use Rattle.diagram.specs.Reading.{pass}

-- The words that a caller lends for a pair, and as many pairs as two diagrams can have.
abbrev pub pair_words : ℕ
pair_words = 64

abbrev pub max_pairs : ℕ
max_pairs = max_nodes * max_nodes

-- A node of the first diagram and one of the second.
pub record Pair : Type 0 where
  pub first : ℕ
  pub second : ℕ

abbrev pub pair : ℕ → ℕ → Pair
pair p q = record { first = p; second = q }

-- The smaller of the two variables. A terminal has the variable count for its own, so it steps no more.
abbrev pub level_of : List ℕ → List ℕ → Pair → ℕ
level_of a b x = min (var_of a x.first) (var_of b x.second)

-- Where a pair goes by a bit of that variable: a side that tests it goes to its child, the other stays.
abbrev pub next : List ℕ → List ℕ → Pair → Bool → Pair
next a b x bit = pair (pass a (level_of a b x) x.first bit) (pass b (level_of a b x) x.second bit)

-- Both nodes are terminals.
abbrev pub ended : Pair → Bool
ended x = ltb x.first 2 && ltb x.second 2

-- The pairs that are reached from the two roots.
abbrev pub roots : List ℕ → List ℕ → Pair
roots a b = pair (root a) (root b)

pub data Reached (a b : List ℕ) : Pair → Type 0 where
  start : Reached a b (roots a b)
  step : {x : Pair} → Reached a b x → (2 ≤ x.first) ⊎ (2 ≤ x.second) → (bit : Bool) → Reached a b (next a b x bit)

-- The same, worked out: the pairs met from x on, behind those that were met before, each once and on the way back, low bit first; `k`
-- is how far the walk may still go. That these are the pairs reached is `Walks` of specs/Walks.antt.
unfoldable pub same : Pair → Pair → Bool
same x y = eqb x.first y.first && eqb x.second y.second

unfoldable pub met : Pair → List Pair → Bool
met x [] = false
met x (y ∷ s) = same x y || met x s

unfoldable pub meet : List ℕ → List ℕ → ℕ → Pair → List Pair → List Pair
meet a b zero x s = s
meet a b (suc k) x s =
    let low = meet a b k (next a b x false) s in
    let high = meet a b k (next a b x true) low in
    cond (met x s) s (cond (ended x) s high ++ (x ∷ []))

-- Variables grow at every step, so one step more than there are variables is far enough.
abbrev pub meet_from : List ℕ → List ℕ → Pair → List Pair → List Pair
meet_from a b x s = meet a b (suc (vars a)) x s

-- All of them, and how many they are.
abbrev pub all_of : List ℕ → List ℕ → List Pair
all_of a b = meet_from a b (roots a b) []

abbrev pub pairs_of : List ℕ → List ℕ → ℕ
pairs_of a b = length (all_of a b)
