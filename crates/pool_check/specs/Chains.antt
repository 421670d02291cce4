-- The chains along which equal nodes are looked for, in local words. Auxiliary: no promise to a caller names these. There are
--     from 0 on         for each key the last node that has it, or 0
--     from max_nodes on  for each node the one before it with the same key, or 0
use Rattle.std.specs.Prelude.{ℕ, ◌+◌, ◌*◌, ◌≤◌, ◌<◌, ◌≡◌, ◌≢◌, Bool, false, cond, not, ◌&&◌, List, length, get_or, leb}
use Rattle.diagram.specs.Limits.{max_nodes}
use Rattle.diagram.specs.Diagram.{var_of, low_of, high_of, size}
use Rattle.store.specs.Store.{Node, node}
use Rattle.store.specs.Room.{key_of}
use Rattle.pool.specs.Pool.{is_free}

abbrev pub head_in : List ℕ → ℕ → ℕ
head_in m h = get_or m h 0

abbrev pub before_in : List ℕ → ℕ → ℕ
before_in m p = get_or m (max_nodes + p) 0

abbrev pub node_in : List ℕ → ℕ → Node
node_in t p = node (var_of t p) (low_of t p) (high_of t p)

-- The chain that a place is in: that of its node's key. Terminals and free places are in none, which is the number after the keys.
unfoldable pub chain_of : List ℕ → ℕ → ℕ
chain_of t p = cond (leb 2 p && not (is_free t p)) (key_of (size t) (node_in t p)) (size t)

-- x is the last place before n in chain h, or 0 where there is none.
pub record Last (chain : ℕ → ℕ) (h n x : ℕ) : Type 0 where
  pub inside : x ≢ 0 → x < n
  pub like : x ≢ 0 → chain x ≡ h
  pub passed : (i : ℕ) → x < i → i < n → chain i ≢ h

-- The places before n are linked, in c chains.
pub record Chains (chain : ℕ → ℕ) (c n : ℕ) (head before : ℕ → ℕ) : Type 0 where
  pub heads : (h : ℕ) → h < c → Last chain h n (head h)
  pub befores : (i : ℕ) → i < n → chain i < c → Last chain (chain i) i (before i)

-- The nodes before place p are linked.
pub record Linked (t m : List ℕ) (p : ℕ) : Type 0 where
  pub few : size t ≤ max_nodes
  pub long : 2 * max_nodes ≤ length m
  pub chains : Chains (chain_of t) (size t) p (head_in m) (before_in m)

-- Whether place p is a node that was there before; if not, it is linked too.
pub record Met (t : List ℕ) (p : ℕ) (again : Bool) (m' : List ℕ) (r : Bool) : Type 0 where
  pub says : r ≡ again
  pub linked : r ≡ false → Linked t m' (p + 1)
