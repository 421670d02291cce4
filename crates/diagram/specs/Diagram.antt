-- What a diagram is (document 01, "What a diagram is"). `w` is the list of its words.
use Rattle.std.specs.Prelude.{ℕ, zero, suc, ◌+◌, ◌-◌, ◌*◌, ◌/◌, ◌≤◌, ◌<◌, ◌≡◌, Bool, false, cond, List, length, get_or, ltb, eqb}
use Rattle.diagram.specs.Limits.{max_nodes, max_variables}

-- Three words for a node: variable, low link, high link.
abbrev pub var_of : List ℕ → ℕ → ℕ
var_of w p = get_or w (3 * p) 0

abbrev pub low_of : List ℕ → ℕ → ℕ
low_of w p = get_or w (3 * p + 1) 0

abbrev pub high_of : List ℕ → ℕ → ℕ
high_of w p = get_or w (3 * p + 2) 0

-- How many nodes; the variable count, which is node 0's variable; the root, which is the last node.
abbrev pub size : List ℕ → ℕ
size w = length w / 3

abbrev pub vars : List ℕ → ℕ
vars w = var_of w 0

abbrev pub root : List ℕ → ℕ
root w = size w - 1

-- A valuation is a list of bits, one for each variable. One step of its path: low for 0, high for 1; at a terminal,
-- node 0 or 1, the path has ended.
unfoldable pub step : List ℕ → List Bool → ℕ → ℕ
step w bs p = cond (ltb p 2) p (cond (get_or bs (var_of w p) false) (high_of w p) (low_of w p))

-- Where the path from p stands after k steps.
unfoldable pub walk : List ℕ → List Bool → ℕ → ℕ → ℕ
walk w bs zero p = p
walk w bs (suc k) p = walk w bs k (step w bs p)

-- The diagram holds for a valuation when the path from the root ends at node 1. Variables grow along a path, so it has
-- ended after as many steps as there are variables.
unfoldable pub holds : List ℕ → List Bool → Bool
holds w bs = eqb (walk w bs (vars w) (root w)) 1

-- The nodes reached from r by links of non-terminals, on any graph of links: cycles, and nodes that a check would
-- refuse, are gone through like others.
pub data Reach (w : List ℕ) (r : ℕ) : ℕ → Type 0 where
  start : Reach w r r
  by_low : {p : ℕ} → Reach w r p → 2 ≤ p → Reach w r (low_of w p)
  by_high : {p : ℕ} → Reach w r p → 2 ≤ p → Reach w r (high_of w p)

-- A terminal has the variable count for its variable, and both links to itself.
pub record Terminal (w : List ℕ) (p : ℕ) : Type 0 where
  pub var : var_of w p ≡ vars w
  pub low : low_of w p ≡ p
  pub high : high_of w p ≡ p

-- Variable below v, links below n.
pub record InRange (w : List ℕ) (p : ℕ) : Type 0 where
  pub var : var_of w p < vars w
  pub low : low_of w p < size w
  pub high : high_of w p < size w

-- Both children stand at a strictly larger variable.
pub record Above (w : List ℕ) (p : ℕ) : Type 0 where
  pub low : var_of w p < var_of w (low_of w p)
  pub high : var_of w p < var_of w (high_of w p)

-- Whole nodes, within the limits, with the terminals and links in range: what can be said before links are followed.
pub record Formed (w : List ℕ) : Type 0 where
  pub whole : length w ≡ 3 * size w
  pub some : 0 < size w
  pub few : size w ≤ max_nodes
  pub zero_terminal : Terminal w 0
  pub one_terminal : 1 < size w → Terminal w 1
  pub variables : vars w ≤ max_variables
  pub ranges : (p : ℕ) → 2 ≤ p → p < size w → InRange w p

-- Variables grow along every link: as accepted, but nodes may be out of reach.
pub record Ordered (w : List ℕ) : Type 0 where
  pub formed : Formed w
  pub ordered : (p : ℕ) → 2 ≤ p → p < size w → Above w p

-- Accepted, in document 01's words.
pub record Accepted (w : List ℕ) : Type 0 where
  pub formed : Formed w
  pub ordered : (p : ℕ) → 2 ≤ p → p < size w → Reach w (root w) p → Above w p
  pub reached : (p : ℕ) → 2 ≤ p → p < size w → Reach w (root w) p
