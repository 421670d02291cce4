-- What the functions of the search for a count ask. No promise to a caller rests on this file. The room is as crates/room_map
-- has it.
use Rattle.std.specs.Prelude.{ℕ, ◌+◌, ◌-◌, ◌≤◌, ◌<◌, ◌≡◌, List, length, get_or, set, take, drop}
use Rattle.naturals.specs.Natural.{Holds}
use Rattle.diagram.specs.Limits.{max_nodes}
use Rattle.diagram.specs.Diagram.{size, vars, Ordered}
use Rattle.diagram.specs.Verdict.{accepted, most}
use Rattle.diagram.specs.Valuations.{count_of}
use Rattle.counts.specs.Table.{num, Noted}
use Rattle.approximation.specs.Cut.{listed, under_count_of}
use Rattle.approximation.specs.Search.{order}
use Rattle.cuts.specs.Marks.{marked_in}
use Rattle.room_map.specs.Map.{counts_from, counts_to, weights_from, weights_to, search_to}
use Rattle.recounts.specs.Kept.{Stale, Whole}
use Rattle.trials.specs.Trials.{Ready, Searching, Preparing, Prepared}

-- A node stands at place i of the priorities.
pub record Takeable (r : List ℕ) (n i : ℕ) : Type 0 where
  pub few : n ≤ max_nodes
  pub inside : get_or r i 0 < n
  pub long : weights_to n ≤ length r

-- Node p is taken, and words are its weight.
pub record Took (changed r changed' after : List ℕ) (n p : ℕ) (words : List ℕ) : Type 0 where
  pub flag : changed' ≡ set changed p 1
  pub noted : Noted (counts_from n) (set r (n + p) 1) p 0 after
  pub weight : Holds (num (weights_from n) after p) words

-- The first c priorities are marked, and no other node; beyond the counts the room is as it was at the start.
pub record Taken (w heads start changed r : List ℕ) (c : ℕ) : Type 0 where
  pub few : c ≤ size w - 2
  pub kept : length r ≡ length start
  pub ready : Ready w r
  pub marks : (q : ℕ) → q < size w → marked_in (size w) r q ≡ listed (take c (order w)) q
  pub beyond : drop (counts_to (size w)) r ≡ drop (counts_to (size w)) start
  pub stale : Stale w heads changed r

-- The search itself begins: nothing is taken.
pub record Seeking (w heads sent r : List ℕ) (k count n v : ℕ) : Type 0 where
  pub ordered : Ordered w
  pub is_size : n ≡ size w
  pub is_vars : v ≡ vars w
  pub many : 2 < n
  pub copy : length w ≤ length sent
  pub long : search_to n ≤ length r
  pub taken : Taken w heads r sent r 0
  pub low : 0 < k
  pub high : k < count_of w
  pub is_count : count ≡ count_of w

-- The count of a diagram, and where it has two nodes or more what was counted, in the room.
pub record Counted (w heads r after words : List ℕ) : Type 0 where
  pub count : Holds (count_of w) words
  pub kept : length after ≡ length r
  pub beyond : drop (counts_to (most w)) after ≡ drop (counts_to (most w)) r
  pub whole : 2 ≤ size w → Whole w heads after

-- A room that is long enough, and a target that is not refused.
pub record Aiming (w r : List ℕ) (k n v : ℕ) : Type 0 where
  pub searching : Searching w r n v
  pub target : under_count_of w k ≡ accepted (size w) (vars w)

-- What was counted stands in the room; then the weights and the order do too.
pub record Weighing (w heads r : List ℕ) (n v : ℕ) : Type 0 where
  pub preparing : Preparing w r n v
  pub whole : Whole w heads r

pub record Weighed (w heads r after : List ℕ) : Type 0 where
  pub prepared : Prepared w r after
  pub whole : Whole w heads after

-- A count that is above the target, and what was counted.
pub record Above (w heads r : List ℕ) (k count n v : ℕ) : Type 0 where
  pub aiming : Aiming w r k n v
  pub whole : Whole w heads r
  pub low : 0 < k
  pub high : k < count_of w
  pub is_count : count ≡ count_of w
