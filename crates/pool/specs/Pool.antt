-- A pool: the conditions of a site in one table of nodes (document 02, E6). It is two lists of words, the table t and the slots s.
-- The table has three words for each place, as a diagram has for each node. Places 0 and 1 are the terminals; any other is a node or
-- free, and all words of a free place are zero. A slot's word is 0 where the slot is empty, else the successor of the place of its
-- condition's root. Nodes and free places may stand in any order.
use Rattle.std.specs.Prelude.{ℕ, zero, suc, ◌-◌, ◌*◌, ◌%◌, ◌≤◌, ◌<◌, ◌≡◌, ◌⊎◌, ◌≢◌, Bool, not, ◌&&◌, ◌||◌, List, [], ◌∷◌, ◌++◌, length, get_or, replicate, leb, ltb, eqb}
use Rattle.diagram.specs.Limits.{max_nodes, max_variables}
use Rattle.diagram.specs.Diagram.{var_of, low_of, high_of, size, vars, walk, Reach, Terminal, InRange, Above}
use Rattle.diagram.specs.Verdict.{any, is_terminal, is_child, is_above}
use Rattle.store.specs.Store.{Node, words, canon, terminals}
use Rattle.reduction.specs.Reduce.{reduced}

abbrev pub slot_count : ℕ
slot_count = 64

-- The words of the smallest table: the two terminals.
abbrev pub terminal_words : ℕ
terminal_words = 6

-- ---- well formed, in document 02's words

-- All words of a place are zero.
pub record Free (t : List ℕ) (p : ℕ) : Type 0 where
  pub var : var_of t p ≡ 0
  pub low : low_of t p ≡ 0
  pub high : high_of t p ≡ 0

-- A node after the terminals: a place that is not free.
pub record Inner (t : List ℕ) (p : ℕ) : Type 0 where
  pub after : 2 ≤ p
  pub inside : p < size t
  pub used : ¬ Free t p

-- Slot k is live, and its condition's root is at place r.
pub record Live (s : List ℕ) (k r : ℕ) : Type 0 where
  pub inside : k < slot_count
  pub names : get_or s k 0 ≡ suc r

pub record WellFormed (t s : List ℕ) : Type 0 where
  -- whole places, of which two are the terminals; as many slots as there must be
  pub whole : length t ≡ 3 * size t
  pub two : 2 ≤ size t
  pub few : size t ≤ max_nodes
  pub slots : length s ≡ slot_count
  pub zero_terminal : Terminal t 0
  pub one_terminal : Terminal t 1
  -- the variable count is within the limit
  pub variables : vars t ≤ max_variables
  -- live slots name nodes
  pub named : (k r : ℕ) → Live s k r → (r < 2) ⊎ Inner t r
  -- the nodes after the terminals are ordered,
  pub ranges : (p : ℕ) → Inner t p → InRange t p
  pub ordered : (p : ℕ) → Inner t p → Above t p
  -- reduced,
  pub lean : (p : ℕ) → Inner t p → low_of t p ≢ high_of t p
  -- distinct,
  pub distinct : (p q : ℕ) → Inner t p → Inner t q → var_of t p ≡ var_of t q → low_of t p ≡ low_of t q → high_of t p ≡ high_of t q → p ≡ q
  -- and each is reached from a live slot
  pub reached : (p : ℕ) → Inner t p → (k : ℕ) × (r : ℕ) × Live s k r × Reach t r p

-- ---- the same as a test

unfoldable pub is_free : List ℕ → ℕ → Bool
is_free t p = eqb (var_of t p) 0 && (eqb (low_of t p) 0 && eqb (high_of t p) 0)

-- The lengths of table and slots.
unfoldable pub is_measured : ℕ → ℕ → Bool
is_measured table slots = eqb (table % 3) 0 && (leb terminal_words table && (leb table (3 * max_nodes) && eqb slots slot_count))

-- The terminals, and the variable count.
unfoldable pub is_ended : List ℕ → Bool
is_ended t = is_terminal t 0 && (is_terminal t 1 && leb (vars t) max_variables)

-- A slot's word names nothing, a terminal, or a node.
unfoldable pub is_name : List ℕ → ℕ → Bool
is_name t x = ltb x 3 || (leb x (size t) && not (is_free t (x - 1)))

-- A node's words are right: variable and links in range, both children at larger variables, and not the same child twice.
unfoldable pub is_right : List ℕ → ℕ → Bool
is_right t p =
    ltb (var_of t p) (vars t)
    && (ltb (low_of t p) (size t) && (ltb (high_of t p) (size t) && (is_above t p && not (eqb (low_of t p) (high_of t p)))))

-- Place p is named by a slot or by a node's link. In an ordered table each node is then reached from a live slot.
unfoldable pub is_wanted : List ℕ → List ℕ → ℕ → Bool
is_wanted t s p = any slot_count (λ k. eqb (get_or s k 0) (suc p)) || any (size t) (λ q. is_child t q p)

-- A place before p, and after the terminals, has the same words.
unfoldable pub is_again : List ℕ → ℕ → Bool
is_again t p = any p (λ q. leb 2 q && (eqb (var_of t q) (var_of t p) && (eqb (low_of t q) (low_of t p) && eqb (high_of t q) (high_of t p))))

-- Every node after the terminals passes a test.
unfoldable pub each_node : List ℕ → (ℕ → Bool) → Bool
each_node t test = not (any (size t) (λ p. leb 2 p && (not (is_free t p) && not (test p))))

unfoldable pub is_pool : List ℕ → List ℕ → Bool
is_pool t s =
    is_measured (length t) (length s)
    && (is_ended t
    && (not (any slot_count (λ k. not (is_name t (get_or s k 0))))
    && (each_node t (is_right t)
    && (each_node t (is_wanted t s)
    && each_node t (λ p. not (is_again t p))))))

-- ---- the conditions that a pool holds

-- The path from place p ends at node 1.
unfoldable pub holds_from : List ℕ → ℕ → List Bool → Bool
holds_from t p bs = eqb (walk t bs (vars t) p) 1

-- A slot is empty, or it is live with a condition.
pub data Slot : Type 0 where
  empty : Slot
  live : (List Bool → Bool) → Slot

unfoldable pub slot_of : List ℕ → ℕ → Slot
slot_of t zero = empty
slot_of t (suc p) = live (holds_from t p)

unfoldable pub held : List ℕ → List ℕ → List Slot
held t [] = []
held t (x ∷ s) = slot_of t x ∷ held t s

-- ---- the one table of conditions over v variables, by slot

-- Building a slot's condition on the nodes o.
unfoldable pub placed : ℕ → Slot → List Node → List Node
placed v empty o = o
placed v (live f) o = (canon v 0 f o).store

-- The slot's word after that.
unfoldable pub named : ℕ → Slot → List Node → ℕ
named v empty o = 0
named v (live f) o = suc (canon v 0 f o).pointer

-- Building all, in the order of the slots.
unfoldable pub gather : ℕ → List Slot → List Node → List Node
gather v [] o = o
gather v (c ∷ cs) o = gather v cs (placed v c o)

unfoldable pub names : ℕ → List Slot → List Node → List ℕ
names v [] o = []
names v (c ∷ cs) o = named v c o ∷ names v cs (placed v c o)

-- How many distinct nodes conditions have, both terminals included.
unfoldable pub needs : ℕ → List Slot → ℕ
needs v cs = length (gather v cs (terminals v))

-- The table of n places, and the slots. Nodes come first, and what is left is free.
unfoldable pub table_of : ℕ → ℕ → List Slot → List ℕ
table_of n v cs = words (gather v cs (terminals v)) ++ replicate (3 * (n - needs v cs)) 0

unfoldable pub slots_of : ℕ → List Slot → List ℕ
slots_of v cs = names v cs (terminals v)

-- The words that reading a slot gives: the reduced array of its condition.
unfoldable pub array_of : ℕ → Slot → List ℕ
array_of v empty = []
array_of v (live f) = reduced v f
