-- What the count and the weights of a diagram's nodes are answered with (document 01, port order 6; document 02, E2), and what they
-- are numbers of.
use Rattle.std.specs.Prelude.{ℕ, zero, suc, ◌≤◌, ◌≡◌, true, ◌&&◌, List, [], ◌++◌, length, replicate, eqb}
use Rattle.naturals.specs.Natural.{word_count, Holds}
use Rattle.naturals.specs.Spelling.{words_of}
use Rattle.diagram.specs.Diagram.{size, vars, root, holds}
use Rattle.diagram.specs.Valuations.{count_of, meets, weight_of}
use Rattle.diagram.specs.Verdict.{Verdict, if_accepted, verdict_for, Answers}
use Rattle.diagram.specs.declared.verdict.Output.TheVariants.{Weights}
use Rattle.counts.specs.Counting.{Number}

-- The weights of the first n nodes, one after another.
unfoldable pub weight_words : List ℕ → ℕ → List ℕ
weight_words w zero = []
weight_words w (suc n) = weight_words w n ++ words_of word_count (weight_of w n)

-- The weights alone: the check's verdict for an output of weights, and the weights of all nodes in it.
abbrev pub Weighs : (w room room' out out' : List ℕ) → Verdict → Type 0
Weighs w = Answers (verdict_for Weights w) Weights (weight_words w (size w)) w

-- Count and weights in one answer (document 02, E2): the count too, which is zero where the words are refused.
pub record CountsAndWeighs (w room room' out out' : List ℕ) (r : Verdict) (count : List ℕ) : Type 0 where
  pub weighs : Weighs w room room' out out' r
  pub counted : Holds (if_accepted (verdict_for Weights w (length room) (length out)) (count_of w) 0) count

-- A node's weight is the number of the valuations for which the diagram holds and whose path visits the node. Node 0 has 0;
-- node 1 and the root have the full count, and no node has more (`weighing` of proofs/Visits.antt).
pub record Weighing : Type 0 where
  pub visits : (w : List ℕ) (p : ℕ) → Number (λ bs. (length bs ≡ vars w) × ((holds w bs && meets w bs (eqb p)) ≡ true)) (weight_of w p)
  pub zero_node : (w : List ℕ) → weight_of w 0 ≡ 0
  pub one_node : (w : List ℕ) → weight_of w 1 ≡ count_of w
  pub root_node : (w : List ℕ) → weight_of w (root w) ≡ count_of w
  pub most : (w : List ℕ) (p : ℕ) → weight_of w p ≤ count_of w
  -- the one-node diagram has count 0 and one weight of 0
  pub alone : (w : List ℕ) → size w ≡ 1 → (count_of w ≡ 0) × (weight_words w (size w) ≡ replicate word_count 0)
