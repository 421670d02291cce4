-- A store under construction in lent words: what the contracts of the inner functions cite. No promise to a caller rests on
-- this file. A table is given as a function from places to words, so that it may stand anywhere in the working room.
use Rattle.std.specs.Prelude.{ℕ, zero, suc, ◌+◌, ◌-◌, ◌*◌, ◌≤◌, ◌<◌, ◌≡◌, ◌≢◌, cond, ◌&&◌, List, [], ◌∷◌, ◌++◌, length, get_or, leb, eqb}
use Rattle.diagram.specs.Diagram.{var_of}
use Rattle.diagram.specs.Reading.{eval}
use Rattle.store.specs.Store.{Node, node, find, Built, built, canon}

-- The node that a pointer names.
abbrev pub at : List Node → ℕ → Node
at o p = get_or o p (node 0 0 0)

-- Node p of a store over v variables, no terminal: over two different earlier nodes at larger variables, and there once.
pub record Whole (v : ℕ) (o : List Node) (p : ℕ) : Type 0 where
  pub var : (at o p).var < v
  pub low : (at o p).low < p
  pub high : (at o p).high < p
  pub above_low : (at o p).var < (at o (at o p).low).var
  pub above_high : (at o p).var < (at o (at o p).high).var
  pub differ : (at o p).low ≢ (at o p).high
  pub once : find (at o p) o ≡ p

-- The terminals come first, and every other node is as above.
pub record Sound (v : ℕ) (o : List Node) : Type 0 where
  pub zero_node : at o 0 ≡ node v 0 0
  pub one_node : at o 1 ≡ node v 1 1
  pub enough : 2 ≤ length o
  pub each : (p : ℕ) → 2 ≤ p → p < length o → Whole v o p

-- What joining asks for: children in the store, both at larger variables than i.
pub record Ready (v : ℕ) (o : List Node) (i l h : ℕ) : Type 0 where
  pub var : i < v
  pub low : l < length o
  pub high : h < length o
  pub above_low : i < (at o l).var
  pub above_high : i < (at o h).var

-- The words of the store's nodes, three for a node.
pub record Held (o : List Node) (word : ℕ → ℕ) : Type 0 where
  pub var : (q : ℕ) → q < length o → word (3 * q) ≡ (at o q).var
  pub low : (q : ℕ) → q < length o → word (3 * q + 1) ≡ (at o q).low
  pub high : (q : ℕ) → q < length o → word (3 * q + 2) ≡ (at o q).high

-- The k nodes that stand in a table of words.
unfoldable pub nodes : (ℕ → ℕ) → ℕ → List Node
nodes word zero = []
nodes word (suc k) = nodes word k ++ (node (word (3 * k)) (word (3 * k + 1)) (word (3 * k + 2)) ∷ [])

-- The function that node p of a diagram over v variables stands for, built on the nodes o: what a walk over the diagram
-- makes for p.
unfoldable pub own : List ℕ → ℕ → ℕ → List Node → Built
own w v p o = canon (v - var_of w p) (var_of w p) (eval w (var_of w p) p) o

-- A memo has a word for each of the n nodes of a diagram: 0, or the successor of the node's pointer, which building again
-- would give with nothing added.
pub record Memo (w : List ℕ) (v n : ℕ) (o : List Node) (memo : ℕ → ℕ) : Type 0 where
  pub entry : (p x : ℕ) → p < n → memo p ≡ suc x → own w v p o ≡ built o x

-- Look-up by chains, for any key of a node. The last place from 2 on and before n whose node has key h; 0 where there is
-- none.
unfoldable pub prev : (Node → ℕ) → List Node → ℕ → ℕ → ℕ
prev key o h zero = zero
prev key o h (suc n) = cond (leb 2 n && eqb (key (at o n)) h) n (prev key o h n)

-- For each key below `keys` the last node with that key, and for each node the one before it with the same key.
pub record Chains (key : Node → ℕ) (keys : ℕ) (o : List Node) (head next : ℕ → ℕ) : Type 0 where
  pub heads : (h : ℕ) → h < keys → head h ≡ prev key o h (length o)
  pub nexts : (q : ℕ) → 2 ≤ q → q < length o → next q ≡ prev key o (key (at o q)) q

-- The walk along a chain in search of node n stands at q: at a place whose node has n's key, or at 0, the chain's end.
-- Node n isn't at any later place.
pub record Seek (key : Node → ℕ) (o : List Node) (n : Node) (q : ℕ) : Type 0 where
  pub two : q ≢ 0 → 2 ≤ q
  pub inside : q < length o
  pub like : q ≢ 0 → key (at o q) ≡ key n
  pub passed : (r : ℕ) → q < r → 2 ≤ r → r < length o → at o r ≢ n
