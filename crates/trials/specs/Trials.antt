-- What the searches for a target share. No promise to a caller rests on this file. Where things stand in the working room
-- crates/room_map says.
use Rattle.std.specs.Prelude.{ℕ, ◌-◌, ◌*◌, ◌≤◌, ◌<◌, ◌≡◌, List, length, take, drop}
use Rattle.naturals.specs.Natural.{Holds}
use Rattle.diagram.specs.Diagram.{size, vars, Accepted, Ordered}
use Rattle.diagram.specs.Verdict.{most}
use Rattle.diagram.specs.Valuations.{weight_of}
use Rattle.room_map.specs.Map.{weights_from, weights_to, answer_from, tables_to, search_to}
use Rattle.counts.specs.Table.{entry}
use Rattle.approximation.specs.Search.{Answer, order, cut_first}

-- A search may begin: an accepted diagram, and a room that is long enough, whatever it has before.
pub record Searching (w r : List ℕ) (n v : ℕ) : Type 0 where
  pub accepted : Accepted w
  pub is_size : n ≡ size w
  pub is_vars : v ≡ vars w
  pub long : search_to (most w) ≤ length r

-- Priorities and weights stand in the room.
pub record Ready (w r : List ℕ) : Type 0 where
  pub order : take (size w - 2) r ≡ order w
  pub weight : (p : ℕ) → p < size w → Holds (weight_of w p) (entry (weights_from (size w)) r p)

pub record Preparing (w r : List ℕ) (n v : ℕ) : Type 0 where
  pub ordered : Ordered w
  pub is_size : n ≡ size w
  pub is_vars : v ≡ vars w
  pub many : 2 < n
  pub long : weights_to n ≤ length r

pub record Prepared (w r after : List ℕ) : Type 0 where
  pub ready : Ready w after
  pub kept : length after ≡ length r
  pub beyond : drop (weights_to (size w)) after ≡ drop (weights_to (size w)) r

-- The cut by the first c priorities has k nodes and stands in the room.
pub record Trying (w sent r : List ℕ) (c n v : ℕ) : Type 0 where
  pub ordered : Ordered w
  pub is_size : n ≡ size w
  pub is_vars : v ≡ vars w
  pub many : 2 < n
  pub few : c ≤ n - 2
  pub copy : length w ≤ length sent
  pub long : tables_to n ≤ length r
  pub ready : Ready w r

pub record Tried (w : List ℕ) (c : ℕ) (r after : List ℕ) (k : ℕ) : Type 0 where
  pub count : k ≡ size (cut_first w c)
  pub words : length (cut_first w c) ≡ 3 * k
  pub fits : k ≤ most w
  pub kept : length after ≡ length r
  pub made : take (3 * k) (drop (answer_from (size w)) after) ≡ cut_first w c
  pub ready : Ready w after
  pub beyond : drop (tables_to (size w)) after ≡ drop (tables_to (size w)) r

-- A search has found an answer of k nodes, whose words stand in the room.
pub record Found (w : List ℕ) (a : Answer) (r after : List ℕ) (k made-trials : ℕ) : Type 0 where
  pub trials : made-trials ≡ a.trials
  pub count : k ≡ size a.words
  pub words : length a.words ≡ 3 * k
  pub fits : k ≤ most w
  pub kept : length after ≡ length r
  pub made : take (3 * k) (drop (answer_from (most w)) after) ≡ a.words
  pub beyond : drop (search_to (most w)) after ≡ drop (search_to (most w)) r
