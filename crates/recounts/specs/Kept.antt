-- What is left at each node when some are taken away, kept in the working room. No promise to a caller rests on this file. For a
-- diagram of n nodes the room has the marks of those that are taken (crates/cuts), the chains' links, and what is left at each
-- node, where crates/room_map says. Other lent words, one for each node, are not zero where that has changed.
use Rattle.std.specs.Prelude.{ℕ, suc, ◌+◌, ◌-◌, ◌^◌, ◌≤◌, ◌<◌, ◌≡◌, ◌≢◌, Bool, true, false, cond, List, length, get_or, drop}
use Rattle.naturals.specs.Natural.{Holds}
use Rattle.diagram.specs.Limits.{max_nodes, max_variables}
use Rattle.diagram.specs.Diagram.{var_of, size, vars}
use Rattle.diagram.specs.Valuations.{count_of}
use Rattle.room_map.specs.Map.{links_from, counts_from, counts_to}
use Rattle.levels.specs.Chains.{Last, Heads, Given, Node, Known}
use Rattle.counts.specs.Table.{entry, num, In}
use Rattle.counts.specs.Worth.{worth_of}
use Rattle.negation.specs.Negation.{negated}
use Rattle.approximation.specs.Cut.{cut, send}
use Rattle.cuts.specs.Marks.{marked_in}

-- How many valuations of the variables from p's own on lead from p to node 1 past no node that is taken; none where p is.
unfoldable pub left_of : List ℕ → (ℕ → Bool) → ℕ → ℕ
left_of w taken p = cond (taken p) 0 (worth_of true (send taken 0 w) p)

-- Only what is left has changed in the room.
pub record Untouched (n : ℕ) (room after : List ℕ) : Type 0 where
  pub kept : length after ≡ length room
  pub before : (k : ℕ) → k < counts_from n → get_or after k 0 ≡ get_or room k 0
  pub beyond : drop (counts_to n) after ≡ drop (counts_to n) room

-- The chains of the variables stand in the room, with their heads beside.
pub record Chained (w heads room : List ℕ) : Type 0 where
  pub head : Heads w heads
  pub next : (p : ℕ) → 2 ≤ p → p < size w → Last w (var_of w p) p (get_or room (links_from (size w) + p) 0)

-- Between two counts: what is left was worked out when fewer nodes were taken. Those that were taken since have nothing left, and
-- are among those that have changed.
pub record Stale (w heads changed room : List ℕ) : Type 0 where
  pub chained : Chained w heads room
  pub before : ℕ → Bool
  pub ends : (q : ℕ) → q < 2 → marked_in (size w) room q ≡ false
  pub less : (q : ℕ) → q < size w → before q ≡ true → marked_in (size w) room q ≡ true
  pub left : (q : ℕ) → q < size w → Holds (cond (marked_in (size w) room q) 0 (left_of w before q)) (entry (counts_from (size w)) room q)
  pub same : (q : ℕ) → q < size w → marked_in 0 changed q ≡ false → marked_in (size w) room q ≡ before q

-- While it is worked out again, from the last variable to the first, at variable c and node b of it: the nodes that the pass has
-- been at are right, and stand as they did where they have not changed.
pub record Renewing (w changed room : List ℕ) (c b : ℕ) : Type 0 where
  pub long : counts_to (size w) ≤ length room
  pub flags : size w ≤ length changed
  pub next : (p : ℕ) → 2 ≤ p → p < size w → Last w (var_of w p) p (get_or room (links_from (size w) + p) 0)
  pub before : ℕ → Bool
  pub taken : ℕ → Bool
  pub marks : (q : ℕ) → q < size w → marked_in (size w) room q ≡ taken q
  pub less : (q : ℕ) → q < size w → before q ≡ true → taken q ≡ true
  pub done : (q : ℕ) → q < size w → Known w c b q
      → Holds (left_of w taken q) (entry (counts_from (size w)) room q) × (marked_in 0 changed q ≡ false → left_of w taken q ≡ left_of w before q)
  pub todo : (q : ℕ) → q < size w → (Known w c b q → ⊥)
      → Holds (cond (taken q) 0 (left_of w before q)) (entry (counts_from (size w)) room q) × (marked_in 0 changed q ≡ false → taken q ≡ before q)

pub record Renewed (w room changed after : List ℕ) (c b : ℕ) : Type 0 where
  pub renewing : Renewing w changed after c b
  pub untouched : Untouched (size w) room after

-- What one node, the nodes of one variable, and the whole pass ask for.
pub record Turning (w changed room : List ℕ) (n p : ℕ) : Type 0 where
  pub given : Given w n
  pub node : Node w p
  pub renewing : Renewing w changed room (var_of w p) (suc p)

pub record Joining (w changed room : List ℕ) (n p : ℕ) : Type 0 where
  pub turning : Turning w changed room n p
  pub free : marked_in n room p ≡ false

pub record Levelling (w heads changed room : List ℕ) (n c : ℕ) : Type 0 where
  pub given : Given w n
  pub level : c < vars w
  pub head : Heads w heads
  pub renewing : Renewing w changed room (suc c) 0

-- In the chain of c, at p, or at its end where p is 0.
pub record AtLevel (w start changed room : List ℕ) (c p : ℕ) : Type 0 where
  pub node : p ≢ 0 → Node w p × (var_of w p ≡ c)
  pub renewed : Renewed w start changed room c (suc p)

pub record Passing (w heads changed room : List ℕ) (n v : ℕ) : Type 0 where
  pub given : Given w n
  pub is_vars : v ≡ vars w
  pub head : Heads w heads
  pub renewing : Renewing w changed room v 0

-- What a count asks for and gives.
pub record Recounting (w heads changed room : List ℕ) (n v : ℕ) : Type 0 where
  pub given : Given w n
  pub is_vars : v ≡ vars w
  pub long : counts_to n ≤ length room
  pub flags : n ≤ length changed
  pub stale : Stale w heads changed room

pub record Recounted (w heads room changed after : List ℕ) (n : ℕ) (words : List ℕ) : Type 0 where
  pub count : Holds (count_of (cut w (marked_in n room) 0)) words
  pub stale : Stale w heads changed after
  pub untouched : Untouched n room after

-- Nothing is taken: the chains, and the counts of the whole diagram.
pub record Whole (w heads room : List ℕ) : Type 0 where
  pub chained : Chained w heads room
  pub left : (q : ℕ) → q < size w → Holds (worth_of true w q) (entry (counts_from (size w)) room q)

-- ---- the counts of the negation, from the diagram's

-- All valuations of the variables from p's own on, less what is noted at p.
abbrev pub opposite : List ℕ → List ℕ → ℕ → ℕ → ℕ → ℕ
opposite w room n v p = 2 ^ (v - var_of w p) - num (counts_from n) room p

-- What one node asks for, and all of them.
pub record Opposing (w room : List ℕ) (n v p : ℕ) : Type 0 where
  pub few : n ≤ max_nodes
  pub inside : In (counts_from n) room p
  pub above : var_of w p ≤ v
  pub variables : v ≤ max_variables
  pub most : num (counts_from n) room p ≤ 2 ^ (v - var_of w p)

pub record Turnable (w room : List ℕ) (n v : ℕ) : Type 0 where
  pub given : Given w n
  pub is_vars : v ≡ vars w
  pub many : 2 < n
  pub long : counts_to n ≤ length room
  pub left : (q : ℕ) → q < size w → Holds (worth_of true w q) (entry (counts_from (size w)) room q)

-- The non-terminals below b have the negation's counts, all other nodes still the diagram's.
pub record Turned (w room after : List ℕ) (b : ℕ) : Type 0 where
  pub untouched : Untouched (size w) room after
  pub done : (q : ℕ) → 2 ≤ q → q < b → q < size w → Holds (worth_of true (negated w) q) (entry (counts_from (size w)) after q)
  pub ends : (q : ℕ) → q < 2 → Holds (worth_of true w q) (entry (counts_from (size w)) after q)
  pub todo : (q : ℕ) → b ≤ q → q < size w → Holds (worth_of true w q) (entry (counts_from (size w)) after q)
