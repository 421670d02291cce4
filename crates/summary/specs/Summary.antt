-- The summary beside a pool (document 02, E7): for each variable a record of two numbers, the live nodes that test it and the live slots that
-- depend on it. In words: of each record the nodes, then the slots.
use Rattle.std.specs.Prelude.{ℕ, zero, suc, ◌*◌, Bool, false, cond, not, ◌&&◌, ◌||◌, List, [], ◌∷◌, ◌++◌, get_or, leb, eqb}
use Rattle.diagram.specs.Diagram.{var_of, low_of, high_of, size, vars}
use Rattle.pool.specs.Pool.{slot_count, is_free}

abbrev pub record_words : ℕ
record_words = 2

-- The words of the records of a table's variables.
abbrev pub summary_words : List ℕ → ℕ
summary_words t = record_words * vars t

-- How many numbers below n pass a test.
unfoldable pub how_many : ℕ → (ℕ → Bool) → ℕ
how_many zero test = 0
how_many (suc n) test = cond (test n) (suc (how_many n test)) (how_many n test)

-- Place p is a node that tests variable i. In a pool every node is live: it is reached from a live slot.
unfoldable pub is_node_at : List ℕ → ℕ → ℕ → Bool
is_node_at t i p = leb 2 p && (not (is_free t p) && eqb (var_of t p) i)

unfoldable pub nodes_at : List ℕ → ℕ → ℕ
nodes_at t i = how_many (size t) (is_node_at t i)

-- From place p, in fewer than d links, there is a way to a node that tests variable i. Variables grow along links, so a way has fewer links
-- than there are variables.
unfoldable pub comes_to : List ℕ → ℕ → ℕ → ℕ → Bool
comes_to t i zero p = false
comes_to t i (suc d) p = leb 2 p && (eqb (var_of t p) i || (comes_to t i d (low_of t p) || comes_to t i d (high_of t p)))

-- A slot with the word x is live, and such a way leads from its root.
unfoldable pub depends_on : List ℕ → ℕ → ℕ → Bool
depends_on t i zero = false
depends_on t i (suc r) = comes_to t i (vars t) r

unfoldable pub slots_at : List ℕ → List ℕ → ℕ → ℕ
slots_at t s i = how_many slot_count (λ k. depends_on t i (get_or s k 0))

-- The records of the first n variables; of all.
unfoldable pub records : List ℕ → List ℕ → ℕ → List ℕ
records t s zero = []
records t s (suc n) = records t s n ++ (nodes_at t n ∷ slots_at t s n ∷ [])

abbrev pub fresh_summary : List ℕ → List ℕ → List ℕ
fresh_summary t s = records t s (vars t)
