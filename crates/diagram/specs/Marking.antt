-- What the search for reachable nodes keeps in the working room. The marks of the n nodes stand at [0, n), a stack of
-- nodes whose links have still to be followed at [n, 2n). Auxiliary: no promise to a caller names these.
use Rattle.std.specs.Prelude.{ℕ, zero, suc, ◌+◌, ◌*◌, ◌≤◌, ◌<◌, ◌≡◌, Bool, true, cond, not, List, ◌⊎◌, ◌≢◌, length, get_or, set, eqb}
use Rattle.diagram.specs.Limits.{max_nodes}
use Rattle.diagram.specs.Diagram.{low_of, high_of, size, root, Reach}
use Rattle.diagram.specs.Verdict.{reaches, is_above}

-- How many numbers below n pass a test.
unfoldable pub count : ℕ → (ℕ → Bool) → ℕ
count zero test = zero
count (suc n) test = cond (test n) (suc (count n test)) (count n test)

-- The nodes that have no mark yet.
abbrev pub zeros : ℕ → List ℕ → ℕ
zeros n r = count n (λ p. eqb (get_or r p 0) 0)

abbrev pub Marked : List ℕ → ℕ → Type 0
Marked r p = 0 < get_or r p 0

abbrev pub OnStack : ℕ → List ℕ → ℕ → ℕ → Type 0
OnStack n r top p = (k : ℕ) × (k < top) × (get_or r (n + k) 0 ≡ p)

-- A node is marked and put on the stack, unless it has its mark.
abbrev pub pushed : ℕ → List ℕ → ℕ → ℕ → List ℕ
pushed n r top p = cond (eqb (get_or r p 0) 0) (set (set r p 1) (n + top) p) r

abbrev pub pushed_top : List ℕ → ℕ → ℕ → ℕ
pushed_top r top p = cond (eqb (get_or r p 0) 0) (top + 1) top

-- Every mark is right; every marked non-terminal but `busy` is on the stack or has both children marked.
pub record Working (w : List ℕ) (busy : ℕ) (r : List ℕ) (top : ℕ) : Type 0 where
  pub long : 2 * size w ≤ length r
  pub space : top + zeros (size w) r ≤ size w
  pub sound : (p : ℕ) → p < size w → Marked r p → Reach w (root w) p
  pub stacked : (k : ℕ) → k < top → (get_or r (size w + k) 0 < size w) × Marked r (get_or r (size w + k) 0)
  pub done : (p : ℕ) → 2 ≤ p → p < size w → p ≢ busy → Marked r p
      → OnStack (size w) r top p ⊎ (Marked r (low_of w p) × Marked r (high_of w p))

-- From one state of the search to a later one: marks stay, and so does what is left to do but for `spent` steps.
pub record Onward (w : List ℕ) (spent : ℕ) (r : List ℕ) (top : ℕ) (r' : List ℕ) (top' : ℕ) : Type 0 where
  pub grown : (p : ℕ) → p < size w → Marked r p → Marked r' p
  pub left : spent + (top' + zeros (size w) r') ≡ top + zeros (size w) r

-- The search has ended: exactly the reachable nodes have a mark.
abbrev pub Marks : List ℕ → List ℕ → Type 0
Marks w r = (p : ℕ) → p < size w → eqb (get_or r p 0) 0 ≡ not (reaches w p)

-- The non-terminals before k have both children at a larger variable, and these have a mark; a mark says that a node has a
-- parent.
pub record Linked (w r : List ℕ) (k : ℕ) : Type 0 where
  pub two : 2 ≤ k
  pub above : (p : ℕ) → 2 ≤ p → p < k → is_above w p ≡ true
  pub children : (p : ℕ) → 2 ≤ p → p < k → Marked r (low_of w p) × Marked r (high_of w p)
  pub parent : (p : ℕ) → p < size w → Marked r p → (q : ℕ) × (2 ≤ q) × (q < size w) × ((low_of w q ≡ p) ⊎ (high_of w q ≡ p))

-- The lengths have been looked at: whole nodes, within the limit, and room for marks and stack.
pub record Sized (w room : List ℕ) : Type 0 where
  pub whole : length w ≡ 3 * size w
  pub some : 0 < size w
  pub few : size w ≤ max_nodes
  pub fits : 2 * size w ≤ length room
