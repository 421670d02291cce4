-- What the two passes over the nodes work out. Both go by variables, and in each by the chain of its nodes, from the last to
-- the first; where a pass stands is said by a variable c and a node b of it. Auxiliary: no promise to a caller names these.
use Rattle.std.specs.Prelude.{ℕ, zero, suc, ◌+◌, ◌-◌, ◌*◌, ◌^◌, ◌≤◌, ◌<◌, ◌≡◌, ◌≢◌, true, ◌&&◌, List, length, get_or, drop, eqb}
use Rattle.naturals.specs.Natural.{word_count, Holds}
use Rattle.diagram.specs.Limits.{max_variables}
use Rattle.diagram.specs.Diagram.{var_of, size, vars, Ordered}
use Rattle.diagram.specs.Reading.{eval}
use Rattle.diagram.specs.Valuations.{tally, count_of, weight_of}
use Rattle.diagram.proofs.Meeting.{meet}
use Rattle.levels.specs.Chains.{Heads, Given, Node, Todo}
use Rattle.counts.specs.Table.{entry, num, In, scaled}
use Rattle.counts.specs.Worth.{worth_of, Worths}

-- ---- the first pass, from the last variable to the first: the counts' own (crates/exact_counts)

-- How many valuations of the variables from p's own on lead from p to node 1.
abbrev pub sat_of : List ℕ → ℕ → ℕ
sat_of w p = worth_of true w p

-- The room has the chains' links first and the table of `sat_of` behind them.
abbrev pub Sated : List ℕ → List ℕ → Type 0
Sated w room = Worths true w room 0 0

-- ---- the second pass, from the first variable to the last

-- Of the valuations that `sat_of` counts, those whose path meets t.
unfoldable pub through_of : List ℕ → ℕ → ℕ → ℕ
through_of w t p = tally (vars w - var_of w p) (λ bs. eval w (var_of w p) p bs && meet w (eqb t) (var_of w p) p bs)

-- a 0 * f 0 + .. + a (n - 1) * f (n - 1)
unfoldable pub dot : ℕ → (ℕ → ℕ) → (ℕ → ℕ) → ℕ
dot zero a f = 0
dot (suc n) a f = dot n a f + a n * f n

-- The counts are worked out, and behind them there is space for one more table, from a base on.
pub record Counted (w : List ℕ) (base : ℕ) (room : List ℕ) (n : ℕ) : Type 0 where
  pub given : Given w n
  pub sated : Sated w room
  pub behind : n + word_count * n ≤ base
  pub long : base + word_count * n ≤ length room

-- The first p entries are zero now; all before the table is as it was.
pub record Emptied (base : ℕ) (s : List ℕ) (p : ℕ) (after : List ℕ) : Type 0 where
  pub size : length after ≡ length s
  pub none : (q : ℕ) → q < p → Holds 0 (entry base after q)
  pub before : (k : ℕ) → k < base → get_or after k 0 ≡ get_or s k 0

-- A node that is still to be weighed has received the valuations of earlier variables that lead to it; one that is weighed
-- has passed them on, and its weight stands in their place. What the nodes have received, each times what goes on from it,
-- stays the same: in all, and through each node that is still to be weighed. The links and the counts stand before.
pub record Passing (w : List ℕ) (base : ℕ) (room : List ℕ) (c b : ℕ) : Type 0 where
  pub sated : Sated w room
  pub behind : size w + word_count * size w ≤ base
  pub long : base + word_count * size w ≤ length room
  pub received : ℕ → ℕ
  pub todo : (q : ℕ) → q < size w → Todo w c b q → Holds (received q) (entry base room q)
  pub done : (q : ℕ) → q < size w → (Todo w c b q → ⊥) → (received q ≡ 0) × Holds (weight_of w q) (entry base room q)
  pub all : dot (size w) received (λ q. 2 ^ (vars w - var_of w q)) ≡ 2 ^ vars w
  pub visits : (t : ℕ) → t < size w → Todo w c b t → dot (size w) received (through_of w t) ≡ weight_of w t

pub record Turning (w : List ℕ) (base : ℕ) (room : List ℕ) (n p : ℕ) : Type 0 where
  pub given : Given w n
  pub node : Node w p
  pub passing : Passing w base room (var_of w p) (suc p)

pub record Ascending (w heads : List ℕ) (base : ℕ) (room : List ℕ) (n c : ℕ) : Type 0 where
  pub given : Given w n
  pub level : c < vars w
  pub head : Heads w heads
  pub passing : Passing w base room c (size w)

pub record AtUp (w : List ℕ) (base : ℕ) (room : List ℕ) (c p : ℕ) : Type 0 where
  pub node : p ≢ 0 → Node w p × (var_of w p ≡ c)
  pub passing : Passing w base room c (suc p)

-- What a node has received, scaled, can be added to what its child has.
pub record Giving (w : List ℕ) (base : ℕ) (room : List ℕ) (p q : ℕ) : Type 0 where
  pub node : In base room p
  pub inside : In base room q
  pub above : var_of w p < var_of w q
  pub level : var_of w q ≤ max_variables
  pub fits : num base room q + scaled w p q (num base room p) ≤ 2 ^ var_of w q

-- It can be taken as often as what goes on from the node says, which stands in a table before.
pub record Taking (w : List ℕ) (base : ℕ) (room : List ℕ) (n p : ℕ) : Type 0 where
  pub inside : In base room p
  pub before : n + word_count * p + word_count ≤ base
  pub level : var_of w p ≤ vars w
  pub variables : vars w ≤ max_variables
  pub received : num base room p ≤ 2 ^ var_of w p
  pub left : num n room p ≤ 2 ^ (vars w - var_of w p)

-- What the second pass begins with.
pub record Rising (w heads : List ℕ) (base : ℕ) (room : List ℕ) (n v : ℕ) : Type 0 where
  pub counted : Counted w base room n
  pub variables : v ≡ vars w
  pub head : Heads w heads

-- ---- both passes

-- Where the weights of n nodes begin in the room, behind the links and the counts, and where they end.
abbrev pub weights_from : ℕ → ℕ
weights_from n = (1 + word_count) * n

abbrev pub weights_to : ℕ → ℕ
weights_to n = (1 + 2 * word_count) * n

-- What both passes ask for: an ordered diagram, and a room that is long enough.
pub record Weighable (w room : List ℕ) (n v : ℕ) : Type 0 where
  pub ordered : Ordered w
  pub nodes : n ≡ size w
  pub variables : v ≡ vars w
  pub long : weights_to n ≤ length room

-- Links, counts and weights stand in a part of the room.
pub record Tables (w : List ℕ) (n : ℕ) (part : List ℕ) : Type 0 where
  pub sated : Sated w part
  pub weight : (p : ℕ) → p < n → Holds (weight_of w p) (entry (weights_from n) part p)

-- The weights do, and words are the count.
pub record Both (w : List ℕ) (n : ℕ) (part words : List ℕ) : Type 0 where
  pub weight : (p : ℕ) → p < n → Holds (weight_of w p) (entry (weights_from n) part p)
  pub count : Holds (count_of w) words

-- The weights stand in the room, and the room beyond them is as it was. The links and the counts before them are nothing to
-- rely on.
pub record Standing (w room : List ℕ) (n : ℕ) (after : List ℕ) : Type 0 where
  pub kept : length after ≡ length room
  pub weight : (p : ℕ) → p < n → Holds (weight_of w p) (entry (weights_from n) after p)
  pub rest : drop (weights_to n) after ≡ drop (weights_to n) room

-- The numbers of the first n entries of a table stand in the output too, and the output beyond them is as it was.
pub record Handed (base : ℕ) (room before : List ℕ) (n : ℕ) (after : List ℕ) : Type 0 where
  pub kept : length after ≡ length before
  pub number : (q : ℕ) → q < n → Holds (num base room q) (entry 0 after q)
  pub rest : drop (word_count * n) after ≡ drop (word_count * n) before
