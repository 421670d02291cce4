-- A target that an array meets as it is given (document 02, E8). In document 01 and in the Rust its words come back as they
-- stand (Search.antt); now they do where the caller asks for that, and else they are reduced. The array itself meets the target or
-- doesn't, and not what is left when it is reduced; where it doesn't, the search is that of Search.antt, over the array itself.
use Rattle.std.specs.Prelude.{ℕ, ◌≡◌, Bool, true, false, cond, ◌&&◌, List, leb, ltb}
use Rattle.diagram.specs.Diagram.{size, vars}
use Rattle.diagram.specs.Valuations.{count_of}
use Rattle.reduction.specs.Reduce.{reduce}
use Rattle.reduction.specs.Demand3.{Agree}
use Rattle.approximation.specs.Search.{Answer, answer, under_to_size, over_to_size, under_to_count, over_to_count}

-- The answer then: no cut is made for it, and reducing is none.
unfoldable pub met : Bool → List ℕ → Answer
met as_is w = answer (cond as_is w (reduce w)) 0

-- To a size t: an array of t nodes or fewer.
unfoldable pub under_size_answer : Bool → List ℕ → ℕ → Answer
under_size_answer as_is w t = cond (leb (size w) t) (met as_is w) (under_to_size w t)

unfoldable pub over_size_answer : Bool → List ℕ → ℕ → Answer
over_size_answer as_is w t = cond (leb (size w) t) (met as_is w) (over_to_size w t)

-- To a count k: from below a count of k or less, but 0 gives the one-node false, whatever is asked for; from above a count of
-- k or more.
unfoldable pub under_count_answer : Bool → List ℕ → ℕ → Answer
under_count_answer as_is w k = cond (ltb 0 k && leb (count_of w) k) (met as_is w) (under_to_count w k)

unfoldable pub over_count_answer : Bool → List ℕ → ℕ → Answer
over_count_answer as_is w k = cond (leb k (count_of w)) (met as_is w) (over_to_count w k)

-- What is promised of an operation beside the answer of document 01.
pub record Settles (old : Answer) (now : Bool → Answer) : Type 0 where
  -- where the words are to be kept as they are: word by word the same, with the same trials
  pub kept : now true ≡ old
  -- else the same function of the same variables, with the same trials, and reducing changes no word
  pub variables : vars (now false).words ≡ vars old.words
  pub function : Agree (vars old.words) (now false).words old.words
  pub trials : (now false).trials ≡ old.trials
  pub reduced : reduce (now false).words ≡ (now false).words
