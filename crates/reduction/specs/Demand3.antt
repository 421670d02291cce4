-- What is promised of reduction, of any ordered array and so of any accepted one (`demand3` of proofs/Canonical.antt).
use Rattle.std.specs.Prelude.{ℕ, suc, ◌≤◌, ◌<◌, ◌≡◌, ◌↔◌, ◌≢◌, Bool, true, false, List, [], ◌∷◌, length}
use Rattle.diagram.specs.Diagram.{var_of, low_of, high_of, size, vars, root, holds, Ordered, Accepted}
use Rattle.reduction.specs.Reduce.{reduce}

-- Two arrays hold for the same valuations of v variables.
abbrev pub Agree : ℕ → List ℕ → List ℕ → Type 0
Agree v a b = (bs : List Bool) → length bs ≡ v → holds a bs ≡ holds b bs

-- An array holds for every valuation, or for none.
abbrev pub Always : Bool → List ℕ → Type 0
Always b w = (bs : List Bool) → length bs ≡ vars w → holds w bs ≡ b

-- No node has low = high; no two nodes are equal.
abbrev pub Lean : List ℕ → Type 0
Lean w = (p : ℕ) → 2 ≤ p → p < size w → low_of w p ≢ high_of w p

abbrev pub Distinct : List ℕ → Type 0
Distinct w = (p q : ℕ) → p < size w → q < size w → var_of w p ≡ var_of w q → low_of w p ≡ low_of w q → high_of w p ≡ high_of w q → p ≡ q

-- Numbering on the way back, low branch first: where the nodes below a have their numbers, the walk to p gives out those
-- from a to b. A node that has its number gets no other; any other node gets its number after its low branch has been
-- numbered, and then its high branch.
pub data Numbering (w : List ℕ) : ℕ → ℕ → ℕ → Type 0 where
  there : {a p : ℕ} → p < a → Numbering w a p a
  after : {a b p : ℕ} → Numbering w a (low_of w p) b → Numbering w b (high_of w p) p → Numbering w a p (suc p)

pub record Demand3 : Type 0 where
  -- the reduced diagram is over the same variables and holds for the same valuations
  pub variables : (w : List ℕ) → Ordered w → vars (reduce w) ≡ vars w
  pub function : (w : List ℕ) → Ordered w → Agree (vars w) (reduce w) w
  -- two arrays over the same variables reduce to the same words exactly when they hold for the same valuations
  pub canonical : (a b : List ℕ) → Ordered a → Ordered b → vars a ≡ vars b → (reduce a ≡ reduce b) ↔ Agree (vars a) a b
  -- reducing again changes no word
  pub again : (w : List ℕ) → Ordered w → reduce (reduce w) ≡ reduce w
  -- it is accepted, so all of it is reached; no node has low = high, and no two nodes are equal
  pub accepted : (w : List ℕ) → Ordered w → Accepted (reduce w)
  pub lean : (w : List ℕ) → Ordered w → Lean (reduce w)
  pub distinct : (w : List ℕ) → Ordered w → Distinct (reduce w)
  -- no array over the same variables that holds for the same valuations has fewer nodes
  pub fewest : (w a : List ℕ) → Ordered w → Ordered a → vars a ≡ vars w → Agree (vars w) a w → size (reduce w) ≤ size a
  -- nodes after the terminals are numbered on the way back, low branch first, root last: so a node stands after its children
  pub numbered : (w : List ℕ) → Ordered w → 2 ≤ size (reduce w) → Numbering (reduce w) 2 (root (reduce w)) (size (reduce w))
  pub after_children : (w : List ℕ) → Ordered w → (p : ℕ) → 2 ≤ p → p < size (reduce w) → (low_of (reduce w) p < p) × (high_of (reduce w) p < p)
  -- and this says it all: an array with no low = high, no two equal nodes and this numbering is its own reduced array
  pub only : (w : List ℕ) → Ordered w → Lean w → Distinct w → 2 ≤ size w → Numbering w 2 (root w) (size w) → reduce w ≡ w
  -- false has one node, true two
  pub false_one : (w : List ℕ) → Always false w → reduce w ≡ vars w ∷ 0 ∷ 0 ∷ []
  pub true_two : (w : List ℕ) → Always true w → reduce w ≡ vars w ∷ 0 ∷ 0 ∷ vars w ∷ 1 ∷ 1 ∷ []
