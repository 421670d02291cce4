-- Where a store stands in the working room, and what the functions ask and promise. No promise to a caller rests on this
-- file. A store has a base b, the place at which it begins, and a capacity c, the nodes that it has places for:
--     from b on      the words of the nodes, three for each place
--     next_from       for each node the one before it with the same key
--     heads_from      for each key the last node that has it
--     store_to        the end
-- The memo of a diagram that is walked stands from a place q on, outside the store.
use Rattle.std.specs.Prelude.{ℕ, suc, ◌+◌, ◌*◌, ◌/◌, ◌%◌, ◌≤◌, ◌<◌, min, ◌≡◌, ◌≢◌, List, length, get_or, set}
use Rattle.diagram.specs.Limits.{max_nodes, room_per_node}
use Rattle.diagram.specs.Diagram.{size, vars, Ordered}
use Rattle.store.specs.Store.{Node, node, find, Built, join, terminals}
use Rattle.store.specs.Build.{Sound, Held, nodes, own, Memo, Chains, Seek}

-- ---- the layout

abbrev pub next_from : ℕ → ℕ → ℕ
next_from b c = b + 3 * c

abbrev pub heads_from : ℕ → ℕ → ℕ
heads_from b c = b + 4 * c

-- how many words a store has, and where it ends
abbrev pub store_words : ℕ → ℕ
store_words c = 5 * c

abbrev pub store_to : ℕ → ℕ → ℕ
store_to b c = b + store_words c

-- the largest place at which a table may begin
abbrev pub farthest : ℕ
farthest = room_per_node * max_nodes

abbrev pub word_in : ℕ → List ℕ → ℕ → ℕ
word_in b r j = get_or r (b + j) 0

abbrev pub next_in : ℕ → ℕ → List ℕ → ℕ → ℕ
next_in b c r p = get_or r (next_from b c + p) 0

abbrev pub head_in : ℕ → ℕ → List ℕ → ℕ → ℕ
head_in b c r h = get_or r (heads_from b c + h) 0

abbrev pub memo_in : ℕ → List ℕ → ℕ → ℕ
memo_in q r p = get_or r (q + p) 0

-- The first k nodes that stand there.
abbrev pub store_in : ℕ → List ℕ → ℕ → List Node
store_in b r k = nodes (word_in b r) k

-- The key of a node, below c: its words mixed to 32 bits, and these scaled.
unfoldable pub key_of : ℕ → Node → ℕ
key_of c n = (n.var * 608135817 + n.low * 1013904223 + n.high * 736899889) % 4294967296 * c / 4294967296

-- A place is none of the n words from a place on.
abbrev pub Outside : ℕ → ℕ → ℕ → Type 0
Outside from n j = (i : ℕ) → i < n → j ≢ from + i

-- ---- a store

-- There is room for a store.
pub record Space (b c : ℕ) (r : List ℕ) : Type 0 where
  pub near : b ≤ farthest
  pub few : c ≤ max_nodes
  pub long : store_to b c ≤ length r

-- The nodes o stand in the room, with their chains.
pub record Stored (b c : ℕ) (o : List Node) (r : List ℕ) : Type 0 where
  pub space : Space b c r
  pub fits : length o ≤ c
  pub chains : Chains (key_of c) c o (head_in b c r) (next_in b c r)
  pub held : Held o (word_in b r)

-- No key has a node; all other words are as they were.
pub record Forgotten (b c : ℕ) (r after : List ℕ) : Type 0 where
  pub heads : (h : ℕ) → h < c → head_in b c after h ≡ 0
  pub beyond : (j : ℕ) → Outside (heads_from b c) c j → get_or after j 0 ≡ get_or r j 0

-- A store may begin: there is room for the terminals, and no key has a node.
pub record Empty (b c : ℕ) (r : List ℕ) : Type 0 where
  pub space : Space b c r
  pub two : 2 ≤ c
  pub heads : (h : ℕ) → h < c → head_in b c r h ≡ 0

-- A store with the terminals alone.
pub record Started (b c v : ℕ) (r after : List ℕ) : Type 0 where
  pub stored : Stored b c (terminals v) after
  pub beyond : (j : ℕ) → Outside b (store_words c) j → get_or after j 0 ≡ get_or r j 0

-- The six words of the terminals.
unfoldable pub started : ℕ → List ℕ → ℕ → List ℕ
started b r v = set (set (set (set (set (set r b v) (b + 1) 0) (b + 2) 0) (b + 3) v) (b + 4) 1) (b + 5) 1

-- ---- joining

-- A store of k nodes in which node n, which is no terminal, is looked for.
pub record Shelf (b c : ℕ) (r : List ℕ) (k : ℕ) (n : Node) : Type 0 where
  pub stored : Stored b c (store_in b r k) r
  pub vars : ℕ
  pub sound : Sound vars (store_in b r k)
  pub below : n.var < vars

-- What a search for node n answers: its place, or k where it isn't there.
pub record Sought (b c : ℕ) (r : List ℕ) (k : ℕ) (n : Node) (q : ℕ) : Type 0 where
  pub most : q ≤ k
  pub here : q < k → find n (store_in b r k) ≡ q
  pub absent : q ≡ k → Seek (key_of c) (store_in b r k) n 0

-- Node n is written as node k, and becomes the last with key h.
unfoldable pub written : ℕ → List ℕ → ℕ → Node → List ℕ
written b r k n = set (set (set r (b + 3 * k) n.var) (b + 3 * k + 1) n.low) (b + 3 * k + 2) n.high

unfoldable pub chained : ℕ → ℕ → List ℕ → ℕ → ℕ → List ℕ
chained b c r k h = set (set r (next_from b c + k) (get_or r (heads_from b c + h) 0)) (heads_from b c + h) k

abbrev pub entered : ℕ → ℕ → List ℕ → ℕ → ℕ → Node → List ℕ
entered b c r k h n = chained b c (written b r k n) k h

-- What was built stands in the room.
pub record Standing (b c : ℕ) (made : Built) (after : List ℕ) (pointer : ℕ) : Type 0 where
  pub is_pointer : pointer ≡ made.pointer
  pub stored : Stored b c made.store after

-- The outcome of building: the number of nodes, and all of them stand in the room; or, exactly where there are more nodes than
-- places, one more than there are places. Outside the store the room is as it was.
pub record Done (b c : ℕ) (made : Built) (r after : List ℕ) (pointer count : ℕ) : Type 0 where
  pub is_count : count ≡ min (length made.store) (suc c)
  pub stands : count ≤ c → Standing b c made after pointer
  pub nowhere : c < count → pointer ≡ 0
  pub beyond : (j : ℕ) → Outside b (store_words c) j → get_or after j 0 ≡ get_or r j 0

-- ---- the walk

-- The store o and the memo of diagram w stand in the room.
pub record On (w : List ℕ) (q b c : ℕ) (o : List Node) (r : List ℕ) : Type 0 where
  pub ordered : Ordered w
  pub sound : Sound (vars w) o
  pub stored : Stored b c o r
  pub near : q ≤ farthest
  pub inside : q + size w ≤ length r
  pub apart : (p : ℕ) → p < size w → Outside b (store_words c) (q + p)
  pub noted : Memo w (vars w) (size w) o (memo_in q r)

-- The walk may go on at node p, with k nodes in the store.
pub record Walking (w : List ℕ) (q b c : ℕ) (r : List ℕ) (k p : ℕ) : Type 0 where
  pub on : On w q b c (store_in b r k) r
  pub node : p < size w

-- Node p was built,
pub record Arrived (w : List ℕ) (q b c : ℕ) (r : List ℕ) (k p : ℕ) (after : List ℕ) (pointer : ℕ) : Type 0 where
  pub is_pointer : pointer ≡ (own w (vars w) p (store_in b r k)).pointer
  pub on : On w q b c (own w (vars w) p (store_in b r k)).store after

-- unless its nodes with the store's are more than there are places. Outside store and memo the room is as it was.
pub record Walked (w : List ℕ) (q b c : ℕ) (r : List ℕ) (k p : ℕ) (after : List ℕ) (pointer count : ℕ) : Type 0 where
  pub is_count : count ≡ min (length (own w (vars w) p (store_in b r k)).store) (suc c)
  pub arrived : count ≤ c → Arrived w q b c r k p after pointer
  pub nowhere : c < count → pointer ≡ 0
  pub beyond : (j : ℕ) → Outside q (size w) j → Outside b (store_words c) j → get_or after j 0 ≡ get_or r j 0
