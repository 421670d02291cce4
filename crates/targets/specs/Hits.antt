-- What the functions inside ask and promise: from below, or where `above` says so from above. No promise to a caller names
-- these.
use Rattle.std.specs.Prelude.{ℕ, ◌*◌, ◌≤◌, ◌<◌, ◌≡◌, Bool, cond, List, ◌++◌, length, get_or, drop}
use Rattle.diagram.specs.Diagram.{size, vars, Accepted}
use Rattle.diagram.specs.Verdict.{Verdict, Outcome, and_then, most, room_of, verdict_for}
use Rattle.diagram.specs.declared.verdict.Output.TheVariants.{Diagram}
use Rattle.approximation.specs.Search.{Answer}
use Rattle.approximation.specs.Met.{under_size_answer, over_size_answer}
use Rattle.told.specs.Told.{size_told_of}
use Rattle.targets.specs.Targets.{Meets}

abbrev pub to_size : Bool → Bool → List ℕ → ℕ → Answer
to_size above as_is w t = cond above (over_size_answer as_is w t) (under_size_answer as_is w t)

-- What is promised either way.
abbrev pub size_verdict : Bool → List ℕ → ℕ → ℕ → ℕ → Outcome
size_verdict above w t room lent = and_then (verdict_for Diagram w room lent) (size_told_of above w t)

abbrev pub ToSize : (above as_is : Bool) (w : List ℕ) (t : ℕ) (room room' out out' : List ℕ) → Verdict → ℕ → ℕ → Type 0
ToSize above as_is w t = Meets (size_verdict above w t) (to_size above as_is w t) w

-- An accepted diagram in a room that is zero, with an output.
pub record Targeting (w r out : List ℕ) (n v : ℕ) : Type 0 where
  pub accepted : Accepted w
  pub is_size : n ≡ size w
  pub is_vars : v ≡ vars w
  pub long : room_of w ≤ length r
  pub zero : (j : ℕ) → j < room_of w → get_or r j 0 ≡ 0
  pub output : 3 * most w ≤ length out

-- An answer is given.
pub record Hit (a : Answer) (r after out out' : List ℕ) (k trial-count : ℕ) : Type 0 where
  pub count : k ≡ size a.words
  pub trials : trial-count ≡ a.trials
  pub room : after ≡ r
  pub written : out' ≡ a.words ++ drop (length a.words) out
