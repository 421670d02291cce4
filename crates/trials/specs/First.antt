-- Marks of the first priorities, and the cut by them. No promise to a caller rests on this file.
use Rattle.std.specs.Prelude.{ℕ, suc, ◌≤◌, ◌<◌, min, ◌≡◌, false, List, length, get_or, take, drop}
use Rattle.diagram.specs.Limits.{max_nodes}
use Rattle.diagram.specs.Diagram.{size}
use Rattle.room_map.specs.Map.{marks_to, tables_to}
use Rattle.approximation.specs.Search.{cut_first}
use Rattle.cuts.specs.Marks.{marked_in}
use Rattle.trials.specs.Trials.{Ready, Trying, Tried}

pub record Unmarkable (r : List ℕ) (n : ℕ) : Type 0 where
  pub few : n ≤ max_nodes
  pub long : marks_to n ≤ length r

pub record Unmarked (n : ℕ) (r after : List ℕ) : Type 0 where
  pub kept : length after ≡ length r
  pub none : (q : ℕ) → q < n → marked_in n after q ≡ false
  pub before : take n after ≡ take n r
  pub beyond : drop (marks_to n) after ≡ drop (marks_to n) r

pub record FirstMarkable (r : List ℕ) (n c : ℕ) : Type 0 where
  pub few : n ≤ max_nodes
  pub long : marks_to n ≤ length r
  pub within : c ≤ n
  pub inside : (j : ℕ) → j < c → get_or r j 0 < n

-- The cut by the first c priorities may be made, with at most l nodes.
pub record Limited (w sent r : List ℕ) (l c n v : ℕ) : Type 0 where
  pub trying : Trying w sent r c n v
  pub two : 2 ≤ l
  pub within : l ≤ n

-- It stands in the room, if it has at most l nodes; else only that it has more is known, and k is one more than l.
pub record TriedWithin (w : List ℕ) (l c : ℕ) (r after : List ℕ) (k : ℕ) : Type 0 where
  pub count : k ≡ min (size (cut_first w c)) (suc l)
  pub tried : k ≤ l → Tried w c r after k
  pub kept : length after ≡ length r
  pub ready : Ready w after
  pub beyond : drop (tables_to (size w)) after ≡ drop (tables_to (size w)) r
