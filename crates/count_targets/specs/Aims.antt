-- What the functions inside ask and promise: from below, or where `above` says so from above. No promise to a caller names
-- these.
use Rattle.std.specs.Prelude.{ℕ, ◌-◌, ◌^◌, ◌≤◌, ◌<◌, ◌≡◌, Bool, cond, List}
use Rattle.diagram.specs.Diagram.{size, vars}
use Rattle.diagram.specs.Verdict.{Verdict, Outcome, accepted, and_then, verdict_for}
use Rattle.diagram.specs.declared.verdict.Output.TheVariants.{Diagram}
use Rattle.diagram.specs.Valuations.{count_of}
use Rattle.negation.specs.Negation.{negated}
use Rattle.approximation.specs.Cut.{under_count_of, over_count_of}
use Rattle.approximation.specs.Search.{Answer}
use Rattle.approximation.specs.Met.{under_count_answer, over_count_answer}
use Rattle.recounts.specs.Kept.{Whole}
use Rattle.trials.specs.Trials.{Searching}
use Rattle.told.specs.Told.{count_told_of}
use Rattle.targets.specs.Targets.{Meets}
use Rattle.targets.specs.Hits.{Targeting}

abbrev pub to_count : Bool → Bool → List ℕ → ℕ → Answer
to_count above as_is w k = cond above (over_count_answer as_is w k) (under_count_answer as_is w k)

-- What is promised either way.
abbrev pub count_verdict : Bool → List ℕ → ℕ → ℕ → ℕ → Outcome
count_verdict above w k room lent = and_then (verdict_for Diagram w room lent) (count_told_of above w k)

abbrev pub ToCount : (above as_is : Bool) (w : List ℕ) (k : ℕ) (room room' out out' : List ℕ) → Verdict → ℕ → ℕ → Type 0
ToCount above as_is w k = Meets (count_verdict above w k) (to_count above as_is w k) w

-- With a count target that is not refused.
pub record Counting (above : Bool) (w r out : List ℕ) (k n v : ℕ) : Type 0 where
  pub targeting : Targeting w r out n v
  pub target : count_told_of above w k ≡ accepted (size w) (vars w)

-- How many of all valuations a target k leaves.
abbrev pub remaining : List ℕ → ℕ → ℕ
remaining w k = 2 ^ vars w - k

-- A count that is below the target, and what was counted.
pub record Lacking (w heads r : List ℕ) (k count n v : ℕ) : Type 0 where
  pub searching : Searching w r n v
  pub target : over_count_of w k ≡ accepted (size w) (vars w)
  pub whole : 2 ≤ size w → Whole w heads r
  pub high : count_of w < k
  pub is_count : count ≡ count_of w

-- What was counted of a diagram, a target for its negation, and how many valuations that has.
pub record Mirroring (w heads r : List ℕ) (k count n v : ℕ) : Type 0 where
  pub searching : Searching w r n v
  pub many : 2 < n
  pub whole : Whole w heads r
  pub target : under_count_of (negated w) k ≡ accepted (size (negated w)) (vars (negated w))
  pub low : 0 < k
  pub high : k < count_of (negated w)
  pub is_count : count ≡ count_of (negated w)
