-- Document 01's "The evening's cut", sentence by sentence, with no fuel: which answer the rules lead to, where a target isn't
-- refused (18, 16 and 19: Cut.antt). That they lead to the answers of Search.antt and to no other is in Demand2.antt. What is given
-- in the place of input words that aren't to be kept as they stand is in Met.antt (document 02, E8).
use Rattle.std.specs.Prelude.{ℕ, suc, ◌-◌, ◌^◌, ◌≤◌, ◌<◌, ◌≡◌, cond, List, eqb}
use Rattle.diagram.specs.Diagram.{size, vars}
use Rattle.diagram.specs.Valuations.{count_of}
use Rattle.negation.specs.Negation.{negated}
use Rattle.approximation.specs.Constants.{false_of, true_of}
use Rattle.approximation.specs.Search.{Answer, answer, back, cut_first, middle, reached}

-- ---- the searches: each rule makes one cut by a list, and adds one to the trials

-- To size t, between start and stop, after some trials.
pub data SizeRules (w : List ℕ) (t : ℕ) : ℕ → ℕ → ℕ → Answer → Type 0 where
  -- start has reached stop: the cut by the first stop priorities
  last : {start stop trials : ℕ} → stop ≤ start → SizeRules w t start stop trials (answer (cut_first w stop) (suc trials))
  -- exactly t nodes is the answer
  exact : {start stop trials : ℕ} → start < stop → size (cut_first w (middle start stop)) ≡ t
      → SizeRules w t start stop trials (answer (cut_first w (middle start stop)) (suc trials))
  -- fewer sets stop there
  fewer : {start stop trials : ℕ} {a : Answer} → start < stop → size (cut_first w (middle start stop)) < t
      → SizeRules w t start (middle start stop) (suc trials) a → SizeRules w t start stop trials a
  -- more sets start one beyond
  more : {start stop trials : ℕ} {a : Answer} → start < stop → t < size (cut_first w (middle start stop))
      → SizeRules w t (suc (middle start stop)) stop (suc trials) a → SizeRules w t start stop trials a

-- To count k, after some nodes were taken and some trials made, with a rest to remove.
pub data CountRules (w : List ℕ) (k : ℕ) : ℕ → ℕ → ℕ → Answer → Type 0 where
  -- all nodes taken so far are cut, and the count is k or less
  enough : {taken rest trials : ℕ} → count_of (cut_first w (reached w taken rest)) ≤ k
      → CountRules w k taken rest trials (answer (cut_first w (reached w taken rest)) (suc trials))
  -- the count is still above k: the excess is the new rest, and the walk goes on where it stopped
  on : {taken rest trials : ℕ} {a : Answer} → k < count_of (cut_first w (reached w taken rest))
      → CountRules w k (reached w taken rest) (count_of (cut_first w (reached w taken rest)) - k) (suc trials) a
      → CountRules w k taken rest trials a

-- From above: the negation of an answer to which rules lead, with the same trials.
pub record ByNegation (Rules : Answer → Type 0) (a : Answer) : Type 0 where
  pub found : Answer
  pub rules : Rules found
  pub same : a ≡ back found

-- ---- the targets: what is answered for each; an early answer makes no cut

-- From below to size t: t = 1 gives false; t = 2 gives true if the array has two nodes, else false; t ≥ n gives the input
-- words as they stand; otherwise the search.
pub record UnderSize (w : List ℕ) (t : ℕ) (a : Answer) : Type 0 where
  pub one : t ≡ 1 → a ≡ answer (false_of (vars w)) 0
  pub two : t ≡ 2 → a ≡ answer (cond (eqb (size w) 2) (true_of (vars w)) (false_of (vars w))) 0
  pub same : 2 < t → size w ≤ t → a ≡ answer w 0
  pub search : 2 < t → t < size w → SizeRules w t 0 (size w - t) 0 a

-- From above: t = 1 gives false (document 02, E5; 01 had true there); t = 2 gives false if the array has one node, else
-- true; t ≥ n gives the input words as they stand; otherwise the search over the negation.
pub record OverSize (w : List ℕ) (t : ℕ) (a : Answer) : Type 0 where
  pub one : t ≡ 1 → a ≡ answer (false_of (vars w)) 0
  pub two : t ≡ 2 → a ≡ answer (cond (eqb (size w) 1) (false_of (vars w)) (true_of (vars w))) 0
  pub same : 2 < t → size w ≤ t → a ≡ answer w 0
  pub search : 2 < t → t < size w → ByNegation (SizeRules (negated w) t 0 (size w - t) 0) a

-- From below to count k: k = 0 gives false; k at or above the count gives the input words; otherwise count − k is to remove.
pub record UnderCount (w : List ℕ) (k : ℕ) (a : Answer) : Type 0 where
  pub none : k ≡ 0 → a ≡ answer (false_of (vars w)) 0
  pub same : 0 < k → count_of w ≤ k → a ≡ answer w 0
  pub search : 0 < k → k < count_of w → CountRules w k 0 (count_of w - k) 0 a

-- From above: k at or below the count gives the input words; k = 2^v, where it is above the count, gives true; otherwise
-- k − count is to remove from the negation, whose target is its count less that.
pub record OverCount (w : List ℕ) (k : ℕ) (a : Answer) : Type 0 where
  pub same : k ≤ count_of w → a ≡ answer w 0
  pub all : count_of w < k → k ≡ 2 ^ vars w → a ≡ answer (true_of (vars w)) 0
  pub search : count_of w < k → k < 2 ^ vars w
      → ByNegation (CountRules (negated w) (count_of (negated w) - (k - count_of w)) 0 (k - count_of w) 0) a
