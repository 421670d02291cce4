-- What the walk over the nodes works out, for valuations and for paths alike. Auxiliary: no promise to a caller names it.
use Rattle.std.specs.Prelude.{ℕ, suc, ◌+◌, ◌-◌, ◌*◌, ◌^◌, ◌≤◌, ◌<◌, ◌≡◌, ◌≢◌, Bool, cond, List, length, get_or, replicate}
use Rattle.naturals.specs.Natural.{word_count, limit, Holds}
use Rattle.diagram.specs.Limits.{max_nodes, max_variables}
use Rattle.diagram.specs.Diagram.{var_of, low_of, high_of, size, vars, root, Ordered}
use Rattle.diagram.specs.Reading.{eval}
use Rattle.diagram.specs.Valuations.{tally}
use Rattle.levels.specs.Chains.{chain_count, Last, Heads, Given, Node, Known}
use Rattle.counts.specs.Paths.{paths}
use Rattle.counts.specs.Table.{entry as entry_of, num, In}

-- A node's worth: how many valuations of the variables from its own on lead from it to node 1, or how many paths do.
unfoldable pub worth_of : Bool → List ℕ → ℕ → ℕ
worth_of valuations w p =
    cond valuations (tally (vars w - var_of w p) (eval w (var_of w p) p)) (paths w (vars w - var_of w p) p)

-- How often a link that skips variables doubles: once for each where valuations are counted, never where paths are.
unfoldable pub doublings : Bool → ℕ → ℕ
doublings valuations skipped = cond valuations skipped 0

-- A child's worth as it counts at its parent p.
abbrev pub part_of : Bool → List ℕ → ℕ → ℕ → ℕ → ℕ
part_of valuations w p child n = n * 2 ^ doublings valuations (var_of w child - var_of w p - 1)

-- All of it: the root's worth, doubled for the variables above the root.
abbrev pub total_of : Bool → List ℕ → ℕ
total_of valuations w = worth_of valuations w (root w) * 2 ^ doublings valuations (var_of w (root w))

-- The same from a table of worths: what it has at the root of n nodes.
abbrev pub root_of : Bool → List ℕ → ℕ → List ℕ → ℕ → ℕ
root_of valuations w base table n = num base table (n - 1) * 2 ^ doublings valuations (var_of w (n - 1))

pub record Rooted (valuations : Bool) (w : List ℕ) (base : ℕ) (table : List ℕ) (n : ℕ) : Type 0 where
  pub two : 2 ≤ n
  pub few : n ≤ max_nodes
  pub inside : In base table (n - 1)
  pub fits : root_of valuations w base table n < limit

-- The words of the room for each node: a link, and its worth.
abbrev pub entry : ℕ
entry = 1 + word_count

-- The walk goes from the last variable to the first, and in each by the chain of its nodes. Where it stands at variable c and
-- node b, the worths of the nodes that it has been at are noted; the chains' links stand first.
pub record Worths (valuations : Bool) (w room : List ℕ) (c b : ℕ) : Type 0 where
  pub long : size w + word_count * size w ≤ length room
  pub next : (p : ℕ) → 2 ≤ p → p < size w → Last w (var_of w p) p (get_or room p 0)
  pub right : (q : ℕ) → q < size w → Known w c b q → Holds (worth_of valuations w q) (entry_of (size w) room q)

-- A node's number from its children's, in a table: what they are worth at p together, and what working it out there asks for.
abbrev pub shared_of : Bool → List ℕ → ℕ → List ℕ → ℕ → ℕ
shared_of valuations w base table p =
    part_of valuations w p (low_of w p) (num base table (low_of w p)) + part_of valuations w p (high_of w p) (num base table (high_of w p))

pub record Sharing (valuations : Bool) (w : List ℕ) (base : ℕ) (table : List ℕ) (p : ℕ) : Type 0 where
  pub inside : In base table p
  pub low : In base table (low_of w p)
  pub high : In base table (high_of w p)
  pub level : var_of w p ≤ vars w
  pub above_low : var_of w p < var_of w (low_of w p)
  pub above_high : var_of w p < var_of w (high_of w p)
  pub variables : vars w ≤ max_variables
  pub fits : shared_of valuations w base table p ≤ 2 ^ (vars w - var_of w p)

-- What one node and the nodes of one variable ask for.
pub record Joining (valuations : Bool) (w room : List ℕ) (n p : ℕ) : Type 0 where
  pub given : Given w n
  pub node : Node w p
  pub worths : Worths valuations w room (var_of w p) (suc p)

pub record Descending (valuations : Bool) (w heads room : List ℕ) (n c : ℕ) : Type 0 where
  pub given : Given w n
  pub level : c < vars w
  pub head : Heads w heads
  pub worths : Worths valuations w room (suc c) 0

-- In the chain of c, at p, or at its end where p is 0.
pub record AtDown (valuations : Bool) (w room : List ℕ) (c p : ℕ) : Type 0 where
  pub node : p ≢ 0 → Node w p × (var_of w p ≡ c)
  pub worths : Worths valuations w room c (suc p)

-- What the whole walk asks for and gives: chains and worths, but for one node alone, and the worth of all of it.
pub record Totalling (w heads room : List ℕ) (n v : ℕ) : Type 0 where
  pub ordered : Ordered w
  pub nodes : n ≡ size w
  pub variables : v ≡ vars w
  pub empty : heads ≡ replicate chain_count 0
  pub long : n + word_count * n ≤ length room

pub record Totalled (valuations : Bool) (w heads room words : List ℕ) : Type 0 where
  pub total : Holds (total_of valuations w) words
  pub head : 2 ≤ size w → Heads w heads
  pub worths : 2 ≤ size w → Worths valuations w room 0 0
