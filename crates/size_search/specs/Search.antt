-- What the search for a size asks. No promise to a caller rests on this file.
use Rattle.std.specs.Prelude.{ℕ, ◌+◌, ◌-◌, ◌*◌, ◌≤◌, ◌<◌, ◌≡◌, List, length}
use Rattle.diagram.specs.Diagram.{size, vars, Ordered}
use Rattle.room_map.specs.Map.{search_to}
use Rattle.approximation.specs.Search.{size_search}
use Rattle.trials.specs.Trials.{Ready}

-- A diagram of n nodes, more than the target, with its priorities in the room.
pub record Halving (w sent r : List ℕ) (t n v : ℕ) : Type 0 where
  pub ordered : Ordered w
  pub is_size : n ≡ size w
  pub is_vars : v ≡ vars w
  pub least : 2 < t
  pub more : t < n
  pub copy : length w ≤ length sent
  pub long : search_to n ≤ length r
  pub ready : Ready w r

-- The search stands between start and stop, after some trials, of which there are at most c.
pub record At (w : List ℕ) (t c start stop trials : ℕ) : Type 0 where
  pub within : start ≤ stop
  pub most : stop ≤ c
  pub tried : trials ≤ c
  pub left : stop ≤ start + (c - trials)
  pub same : size_search w t c 0 c 0 ≡ size_search w t (c - trials) start stop trials
