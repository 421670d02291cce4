-- The floats that the walk over the nodes notes in the working room. Auxiliary: no promise to a caller names it.
use Rattle.std.specs.Prelude.{ℕ, suc, ◌+◌, ◌-◌, ◌*◌, ◌^◌, ◌≤◌, ◌<◌, ◌≡◌, ◌≢◌, List, length, get_or, Float}
use Rattle.std.specs.Float.{binary64}
use Rattle.std.specs.Float.Ieee.{to_bits}
use Rattle.diagram.specs.Diagram.{var_of, size, vars, Ordered}
use Rattle.levels.specs.Chains.{Last, Given, Node, Known}
use Rattle.cardinality.specs.Cardinality.{float_at}

-- The room has the chains' links first, and from the base on two words for each node: the bits of its count.
abbrev pub bits_at : ℕ → List ℕ → ℕ → ℕ
bits_at base room q = get_or room (base + 2 * q) 0 + get_or room (base + 2 * q + 1) 0 * 2 ^ 32

-- Node q's words are in the room.
abbrev pub In : ℕ → List ℕ → ℕ → Type 0
In base room q = base + 2 * q + 2 ≤ length room

-- Node q has the bits b now; all else is as it was.
pub record Noted (base : ℕ) (room : List ℕ) (q b : ℕ) (after : List ℕ) : Type 0 where
  pub size : length after ≡ length room
  pub here : bits_at base after q ≡ b
  pub other : (r : ℕ) → r ≢ q → bits_at base after r ≡ bits_at base room r
  pub before : (k : ℕ) → k < base → get_or after k 0 ≡ get_or room k 0

-- A node's count: it needs no more links than there are variables from its own on.
abbrev pub float_of : List ℕ → ℕ → Float
float_of w p = float_at w (vars w - var_of w p) p

-- Where the walk stands at variable c and node b, the counts of the nodes that it has been at are noted.
pub record Floated (w room : List ℕ) (c b : ℕ) : Type 0 where
  pub long : size w + 2 * size w ≤ length room
  pub next : (p : ℕ) → 2 ≤ p → p < size w → Last w (var_of w p) p (get_or room p 0)
  pub right : (q : ℕ) → q < size w → Known w c b q → bits_at (size w) room q ≡ to_bits binary64 (float_of w q)

-- What a child's part, one node, and the nodes of one variable ask for.
pub record Parting (w room : List ℕ) (n p q : ℕ) : Type 0 where
  pub ordered : Ordered w
  pub inside : q < size w
  pub place : In n room q
  pub above : var_of w p < var_of w q
  pub noted : bits_at n room q ≡ to_bits binary64 (float_of w q)

pub record Joining (w room : List ℕ) (n p : ℕ) : Type 0 where
  pub given : Given w n
  pub node : Node w p
  pub floated : Floated w room (var_of w p) (suc p)

pub record Descending (w heads room : List ℕ) (n c : ℕ) : Type 0 where
  pub given : Given w n
  pub level : c < vars w
  pub head : (c : ℕ) → c < vars w → Last w c (size w) (get_or heads c 0)
  pub floated : Floated w room (suc c) 0

-- In the chain of c, at p, or at its end where p is 0.
pub record At (w room : List ℕ) (c p : ℕ) : Type 0 where
  pub node : p ≢ 0 → Node w p × (var_of w p ≡ c)
  pub floated : Floated w room c (suc p)
