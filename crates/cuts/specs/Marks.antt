-- Marks and cuts in the working room, which stand where crates/room_map says, and what the inner functions ask and promise. No
-- promise to a caller rests on this file. Everywhere m is the larger of the diagram's number of nodes and 2.
use Rattle.std.specs.Prelude.{ℕ, suc, ◌+◌, ◌*◌, ◌≤◌, ◌<◌, min, max, ◌≡◌, Bool, cond, not, ◌||◌, List, ◌++◌, length, get_or, set, take, drop, ltb, eqb}
use Rattle.diagram.specs.Limits.{max_nodes}
use Rattle.diagram.specs.Diagram.{size, vars, Formed, Ordered}
use Rattle.diagram.specs.Verdict.{most}
use Rattle.room_map.specs.Map.{marks_to, tables_from, answer_from, tables_to}
use Rattle.store.specs.Room.{store_to}
use Rattle.reduction.specs.Reduce.{reduce}
use Rattle.reduction.specs.Room.{Placed}
use Rattle.approximation.specs.Cut.{cut, send, listed}

-- ---- marks

unfoldable pub marked_in : ℕ → List ℕ → ℕ → Bool
marked_in m r q = not (eqb (get_or r (m + q) 0) 0)

pub record Markable (list r : List ℕ) (m : ℕ) : Type 0 where
  pub few : m ≤ max_nodes
  pub long : marks_to m ≤ length r
  pub inside : (j : ℕ) → j < length list → get_or list j 0 < m

-- The nodes of a list are marked, and those that were before.
pub record Marked (list : List ℕ) (m : ℕ) (r after : List ℕ) : Type 0 where
  pub kept : length after ≡ length r
  pub marks : (q : ℕ) → marked_in m after q ≡ (marked_in m r q || listed list q)
  pub before : take m after ≡ take m r
  pub beyond : drop (marks_to m) after ≡ drop (marks_to m) r

-- ---- links

-- Where the link from p to q goes: a terminal's stays.
unfoldable pub link_from : (ℕ → Bool) → ℕ → ℕ → ℕ → ℕ
link_from marked t p q = cond (ltb p 2) q (cond (marked q) t q)

unfoldable pub node_at : List ℕ → ℕ → ℕ → ℕ → ℕ → List ℕ
node_at s p var low high = set (set (set s (3 * p) var) (3 * p + 1) low) (3 * p + 2) high

pub record Sending (w : List ℕ) (m : ℕ) (sent : List ℕ) (n : ℕ) : Type 0 where
  pub formed : Formed w
  pub is_size : n ≡ size w
  pub few : m ≤ max_nodes
  pub long : length w ≤ length sent

pub record Sent (w : List ℕ) (marked : ℕ → Bool) (t : ℕ) (before after : List ℕ) : Type 0 where
  pub kept : length after ≡ length before
  pub words : take (length w) after ≡ send marked t w

-- ---- the cut

-- The constant of terminal t, written at a place.
unfoldable pub constant_at : List ℕ → ℕ → ℕ → ℕ → List ℕ
constant_at r at t v =
    let none = set (set (set r at v) (at + 1) 0) (at + 2) 0 in
    cond (eqb t 0) none (set (set (set none (at + 3) v) (at + 4) 1) (at + 5) 1)

-- A shelf for the tables of a store that has as many places as the array has nodes, of which c are used.
pub record Building (w shelf : List ℕ) (c n v : ℕ) : Type 0 where
  pub ordered : Ordered w
  pub is_size : n ≡ size w
  pub is_vars : v ≡ vars w
  pub two : 2 ≤ c
  pub within : c ≤ most w
  pub long : length shelf ≡ store_to (most w) (most w)

-- The reduced words stand behind the first m words, unless there are more nodes than places.
pub record Built (w shelf after : List ℕ) (c k : ℕ) : Type 0 where
  pub count : k ≡ min (size (reduce w)) (suc c)
  pub placed : k ≤ c → Placed w after k
  pub kept : length after ≡ length shelf

pub record Cutting (w sent r : List ℕ) (c t n v : ℕ) : Type 0 where
  pub ordered : Ordered w
  pub is_size : n ≡ size w
  pub is_vars : v ≡ vars w
  pub two : 2 ≤ c
  pub within : c ≤ most w
  pub terminal : t < 2
  pub copy : length w ≤ length sent
  pub long : tables_to (most w) ≤ length r

-- The cut by the marks has k nodes and stands in the room; all else that this file names is as it was.
pub record CutIn (w : List ℕ) (t : ℕ) (r after : List ℕ) (k : ℕ) : Type 0 where
  pub count : k ≡ size (cut w (marked_in (most w) r) t)
  pub words : length (cut w (marked_in (most w) r) t) ≡ 3 * k
  pub fits : k ≤ most w
  pub kept : length after ≡ length r
  pub made : take (3 * k) (drop (answer_from (most w)) after) ≡ cut w (marked_in (most w) r) t
  pub before : take (tables_from (most w)) after ≡ take (tables_from (most w)) r
  pub beyond : drop (tables_to (most w)) after ≡ drop (tables_to (most w)) r

-- The cut by the marks, if it has at most c nodes; else only that it has more is known, and k is one more than c.
pub record CutWithin (w : List ℕ) (c t : ℕ) (r after : List ℕ) (k : ℕ) : Type 0 where
  pub count : k ≡ min (size (cut w (marked_in (most w) r) t)) (suc c)
  pub cut_in : k ≤ c → CutIn w t r after k
  pub kept : length after ≡ length r
  pub before : take (tables_from (most w)) after ≡ take (tables_from (most w)) r
  pub beyond : drop (tables_to (most w)) after ≡ drop (tables_to (most w)) r
