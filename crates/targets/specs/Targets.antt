-- What cutting to a target answers (document 01, "The evening's cut").
use Rattle.std.specs.Prelude.{Result, Ok, Err, ℕ, ◌*◌, ◌≤◌, ◌≡◌, Bool, false, List, length, take}
use Rattle.diagram.specs.Verdict.{Verdict, Outcome, accepted, said, and_then, verdict_for, if_accepted, Builds}
use Rattle.diagram.specs.declared.verdict.Finding.{Finding}
use Rattle.diagram.specs.declared.verdict.Refused.{Refused}
use Rattle.diagram.specs.declared.verdict.Output.TheVariants.{Diagram}
use Rattle.reduction.specs.Reduce.{reduce}
use Rattle.approximation.specs.Cut.{under_size_of, over_size_of, under_count_of, over_count_of, Under, Over}
use Rattle.approximation.specs.Search.{Answer}
use Rattle.trials.specs.declared.answers.Answer.{Answer as Given}
use Rattle.approximation.specs.Met.{under_size_answer, over_size_answer, under_count_answer, over_count_answer}

-- After the check for a diagram as output come 18 for a size target, 16 and 19 for a count target.
abbrev pub under_size_verdict : List ℕ → ℕ → ℕ → ℕ → Outcome
under_size_verdict w t room lent = and_then (verdict_for Diagram w room lent) (under_size_of w t)

abbrev pub over_size_verdict : List ℕ → ℕ → ℕ → ℕ → Outcome
over_size_verdict w t room lent = and_then (verdict_for Diagram w room lent) (over_size_of w t)

abbrev pub under_count_verdict : List ℕ → ℕ → ℕ → ℕ → Outcome
under_count_verdict w k room lent = and_then (verdict_for Diagram w room lent) (under_count_of w k)

abbrev pub over_count_verdict : List ℕ → ℕ → ℕ → ℕ → Outcome
over_count_verdict w k room lent = and_then (verdict_for Diagram w room lent) (over_count_of w k)

-- How many nodes are answered, and how many trials: none where the request is refused.
abbrev pub nodes_in : Result (Finding Given) Refused → ℕ
nodes_in (Ok a) = a.value.nodes
nodes_in (Err e) = 0

abbrev pub trials_in : Result (Finding Given) Refused → ℕ
trials_in (Ok a) = a.value.trials
trials_in (Err e) = 0

-- The answer's words in the output, and beside them its trials: 0 where the request is refused.
pub record Meets (outcome : ℕ → ℕ → Outcome) (a : Answer) (w room room' out out' : List ℕ) (r : Verdict) (count trial-count : ℕ) : Type 0 where
  pub builds : Builds outcome a.words w room room' out out' r count
  pub trials : trial-count ≡ if_accepted (outcome (length room) (length out)) a.trials 0

-- To a size t, and to a count k; where the target is met already, the words are kept as they are or reduced.
abbrev pub UnderToSize : (as_is : Bool) (w : List ℕ) (t : ℕ) (room room' out out' : List ℕ) → Verdict → ℕ → ℕ → Type 0
UnderToSize as_is w t = Meets (under_size_verdict w t) (under_size_answer as_is w t) w

abbrev pub OverToSize : (as_is : Bool) (w : List ℕ) (t : ℕ) (room room' out out' : List ℕ) → Verdict → ℕ → ℕ → Type 0
OverToSize as_is w t = Meets (over_size_verdict w t) (over_size_answer as_is w t) w

abbrev pub UnderToCount : (as_is : Bool) (w : List ℕ) (k : ℕ) (room room' out out' : List ℕ) → Verdict → ℕ → ℕ → Type 0
UnderToCount as_is w k = Meets (under_count_verdict w k) (under_count_answer as_is w k) w

abbrev pub OverToCount : (as_is : Bool) (w : List ℕ) (k : ℕ) (room room' out out' : List ℕ) → Verdict → ℕ → ℕ → Type 0
OverToCount as_is w k = Meets (over_count_verdict w k) (over_count_answer as_is w k) w

-- What is promised of every call to a size, whatever is offered (`sized` of proofs/Promised.antt): no more nodes than the target
-- stand in the output, and where the call isn't refused they are a diagram on the right side.
pub record Sized : Type 0 where
  pub under : (as_is : Bool) {w : List ℕ} {t : ℕ} {room room' out out' : List ℕ} {r : Verdict} {count trials : ℕ}
      → UnderToSize as_is w t room room' out out' r count trials → (count ≤ t) × ((n v : ℕ) → said r ≡ accepted n v → Under w (take (3 * count) out'))
  pub over : (as_is : Bool) {w : List ℕ} {t : ℕ} {room room' out out' : List ℕ} {r : Verdict} {count trials : ℕ}
      → OverToSize as_is w t room room' out out' r count trials → (count ≤ t) × ((n v : ℕ) → said r ≡ accepted n v → Over w (take (3 * count) out'))

-- And of every call that isn't told to keep the words as they are (`tidied` of proofs/Promised.antt): where it isn't refused, what
-- stands in the output is reduced, so no array of its function has fewer nodes.
abbrev pub Tidy : (out' : List ℕ) → Verdict → ℕ → Type 0
Tidy out' r count = (n v : ℕ) → said r ≡ accepted n v → reduce (take (3 * count) out') ≡ take (3 * count) out'

pub record Tidied : Type 0 where
  pub under_size : (w : List ℕ) (t : ℕ) {room room' out out' : List ℕ} {r : Verdict} {count trials : ℕ}
      → UnderToSize false w t room room' out out' r count trials → Tidy out' r count
  pub over_size : (w : List ℕ) (t : ℕ) {room room' out out' : List ℕ} {r : Verdict} {count trials : ℕ}
      → OverToSize false w t room room' out out' r count trials → Tidy out' r count
  pub under_count : (w : List ℕ) (k : ℕ) {room room' out out' : List ℕ} {r : Verdict} {count trials : ℕ}
      → UnderToCount false w k room room' out out' r count trials → Tidy out' r count
  pub over_count : (w : List ℕ) (k : ℕ) {room room' out out' : List ℕ} {r : Verdict} {count trials : ℕ}
      → OverToCount false w k room room' out out' r count trials → Tidy out' r count
