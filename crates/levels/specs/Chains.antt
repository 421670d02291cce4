-- The nodes that test one variable, linked from the last of them to the first. Auxiliary: no promise to a caller names these.
use Rattle.std.specs.Prelude.{ℕ, ◌+◌, ◌≤◌, ◌<◌, ◌≡◌, ◌≢◌, List, get_or}
use Rattle.diagram.specs.Limits.{max_variables}
use Rattle.diagram.specs.Diagram.{var_of, size, vars, Ordered}

-- How many chains there are: one for each variable, and one for what the terminals have in its place. The code has the same number in src/lib.rt.
abbrev pub chain_count : ℕ
chain_count = max_variables + 1

-- q is the last node below b that tests variable c, or 0 where there is none.
pub record Last (w : List ℕ) (c b q : ℕ) : Type 0 where
  pub node : q ≢ 0 → (2 ≤ q) × (q < b) × (var_of w q ≡ c)
  pub last : (r : ℕ) → 2 ≤ r → r < b → var_of w r ≡ c → r ≤ q

-- Each variable's last node.
abbrev pub Heads : List ℕ → List ℕ → Type 0
Heads w heads = (c : ℕ) → c < vars w → Last w c (size w) (get_or heads c 0)

-- The chains of the first b nodes: each variable's last node, and for each node the one before it with the same variable.
pub record Linked (w heads nexts : List ℕ) (b : ℕ) : Type 0 where
  pub head : (c : ℕ) → c < vars w → Last w c b (get_or heads c 0)
  pub next : (p : ℕ) → 2 ≤ p → p < b → Last w (var_of w p) p (get_or nexts p 0)

-- What a pass asks of the words: an ordered diagram of n nodes, both terminals among them; and of a node of it.
pub record Given (w : List ℕ) (n : ℕ) : Type 0 where
  pub ordered : Ordered w
  pub nodes : n ≡ size w
  pub two : 2 ≤ n

pub record Node (w : List ℕ) (p : ℕ) : Type 0 where
  pub two : 2 ≤ p
  pub inside : p < size w

-- A pass goes by variables, and in each by the chain of its nodes, from the last to the first; where it stands is said by a
-- variable c and a node b of it. Going from the last variable to the first, it has been at a node of a larger variable than
-- c, or of c and not before b.
pub record Known (w : List ℕ) (c b q : ℕ) : Type 0 where
  pub level : c ≤ var_of w q
  pub turn : var_of w q ≡ c → b ≤ q

-- Going from the first variable to the last, it has still to come to a node of a larger variable than c, or of c and before b.
pub record Todo (w : List ℕ) (c b q : ℕ) : Type 0 where
  pub level : c ≤ var_of w q
  pub turn : var_of w q ≡ c → q < b
