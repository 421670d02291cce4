-- Where the reduced diagram is built in the working room, and what the inner functions ask and promise. No promise of reduction
-- rests on this file. The memo stands in the first words, one for each of the diagram's nodes, and the store from m on, m being
-- the larger of the number of nodes and 2; its layout is in crates/store/specs/Room.antt.
use Rattle.std.specs.Prelude.{ℕ, suc, ◌+◌, ◌*◌, ◌≤◌, ◌<◌, min, ◌≡◌, List, ◌++◌, length, get_or, take, drop}
use Rattle.diagram.specs.Limits.{max_nodes}
use Rattle.diagram.specs.Diagram.{size, vars, Ordered}
use Rattle.diagram.specs.Verdict.{most}
use Rattle.store.specs.Room.{store_to, memo_in, head_in}
use Rattle.reduction.specs.Reduce.{reduce}

abbrev pub memo_from : ℕ
memo_from = 0

-- The first k words of a list are those of the room from a place on; the others are as they were.
pub record Copied (r : List ℕ) (from : ℕ) (before after : List ℕ) (k : ℕ) : Type 0 where
  pub first : (j : ℕ) → j < k → get_or after j 0 ≡ get_or r (from + j) 0
  pub rest : drop k after ≡ drop k before

-- Everything is there to build the reduced diagram of an ordered array in a store of c places.
pub record Asked (w r : List ℕ) (c n v : ℕ) : Type 0 where
  pub ordered : Ordered w
  pub is_size : n ≡ size w
  pub is_vars : v ≡ vars w
  pub two : 2 ≤ c
  pub few : c ≤ max_nodes
  pub long : store_to (most w) c ≤ length r
  pub memo : (p : ℕ) → p < size w → memo_in memo_from r p ≡ 0
  pub heads : (h : ℕ) → h < c → head_in (most w) c r h ≡ 0

-- The reduced diagram has k nodes and stands in the room behind the memo.
pub record Placed (w after : List ℕ) (k : ℕ) : Type 0 where
  pub words : length (reduce w) ≡ 3 * k
  pub fits : k ≤ most w
  pub store : take (3 * k) (drop (most w) after) ≡ reduce w

-- Its number of nodes, or one more than there are places. Beyond the tables the room is as it was.
pub record Shelved (w r after : List ℕ) (c k : ℕ) : Type 0 where
  pub count : k ≡ min (size (reduce w)) (suc c)
  pub placed : k ≤ c → Placed w after k
  pub kept : length after ≡ length r
  pub beyond : (j : ℕ) → store_to (most w) c ≤ j → get_or after j 0 ≡ get_or r j 0

-- Everything is there to reduce an ordered array: as many places as the array has nodes, and a room that is zero.
pub record Lent (w r out : List ℕ) (n v : ℕ) : Type 0 where
  pub asked : Asked w r (most w) n v
  pub zero : (j : ℕ) → j < store_to (most w) (most w) → get_or r j 0 ≡ 0
  pub output : 3 * most w ≤ length out

-- The reduced diagram stands in the output, and the room is as it was.
pub record Answered (w r out r' out' : List ℕ) (k : ℕ) : Type 0 where
  pub count : k ≡ size (reduce w)
  pub room : r' ≡ r
  pub output : out' ≡ reduce w ++ drop (length (reduce w)) out
