-- What is promised of the check (`demand1` of proofs/Promised.antt), for any words, any output that is lent and any room.
-- Demand 1: each refusal has one number and place, given exactly when the rules say; the output is then untouched and the
-- working room left as they state. The rows of `verdict_of` are the table of docs/RULES.md; here is what they come to.
use Rattle.std.specs.Prelude.{ℕ, ◌≤◌, ◌<◌, ◌≡◌, ◌↔◌, ◌⊎◌, false, List, ◌++◌, length, drop}
use Rattle.diagram.specs.Diagram.{var_of, low_of, high_of, size, vars, root, Reach, Above, Formed, Accepted}
use Rattle.diagram.specs.Verdict.{Outcome, accepted, refused, room_of, short, verdict_of, cleared, room_after, output_after}
use Rattle.diagram.specs.declared.verdict.Output.{Output}

-- Lengths are enough: refusals 4 and 5 don't come up.
pub record Lent (w : List ℕ) (output : Output) (room : ℕ) : Type 0 where
  pub output_long : short w output ≡ false
  pub room_long : room_of w ≤ room

-- p is the smallest non-terminal with a property.
pub record Smallest (w : List ℕ) (P : ℕ → Type 0) (p : ℕ) : Type 0 where
  pub node : (2 ≤ p) × (p < size w)
  pub holds : P p
  pub least : (q : ℕ) → 2 ≤ q → q < p → P q → ⊥

-- A reachable node with a child that is not at a larger variable. The low child of a node is such; the high one is and the
-- low one isn't.
abbrev pub Broken : List ℕ → ℕ → Type 0
Broken w p = Reach w (root w) p × ¬ Above w p

abbrev pub ByLow : List ℕ → ℕ → Type 0
ByLow w p = var_of w (low_of w p) ≤ var_of w p

abbrev pub ByHighAlone : List ℕ → ℕ → Type 0
ByHighAlone w p = (var_of w p < var_of w (low_of w p)) × (var_of w (high_of w p) ≤ var_of w p)

-- No node is broken; a node is out of reach.
abbrev pub NoneBroken : List ℕ → Type 0
NoneBroken w = (p : ℕ) → 2 ≤ p → p < size w → Broken w p → ⊥

abbrev pub Lost : List ℕ → ℕ → Type 0
Lost w p = ¬ Reach w (root w) p

pub record Demand1 : Type 0 where
  -- accepted, with n and v, exactly where the words are a diagram and what is lent is long enough
  pub accepts : (w : List ℕ) (o : Output) (room n v : ℕ)
      → (verdict_of w o room ≡ accepted n v) ↔ ((Accepted w × Lent w o room) × (n ≡ size w) × (v ≡ vars w))
  -- else refused, by one of the thirteen numbers
  pub refuses : (w : List ℕ) (o : Output) (room number place : ℕ) → verdict_of w o room ≡ refused number place
      → ((1 ≤ number) × (number ≤ 12)) ⊎ (number ≡ 17)
  -- 11 and 17 exactly at the smallest reachable node with a child not at a larger variable: 11 where its low child is such,
  -- 17 where only the high one is. 12 exactly where there is no such node, at the smallest node out of reach. All three
  -- only where nothing else is wrong.
  pub eleven : (w : List ℕ) (o : Output) (room p : ℕ)
      → (verdict_of w o room ≡ refused 11 p) ↔ ((Formed w × Lent w o room) × (Smallest w (Broken w) p × ByLow w p))
  pub seventeen : (w : List ℕ) (o : Output) (room p : ℕ)
      → (verdict_of w o room ≡ refused 17 p) ↔ ((Formed w × Lent w o room) × (Smallest w (Broken w) p × ByHighAlone w p))
  pub twelve : (w : List ℕ) (o : Output) (room p : ℕ)
      → (verdict_of w o room ≡ refused 12 p) ↔ ((Formed w × Lent w o room) × (NoneBroken w × Smallest w (Lost w) p))
  -- the room: refusal 5 and those before it leave it as it was; those after it, and all answers, leave the words that were
  -- asked for zero and the rest as it was
  pub room_kept : (w : List ℕ) (o : Output) (room : List ℕ) (number place : ℕ) → verdict_of w o (length room) ≡ refused number place → number ≤ 5
      → room_after w o room ≡ room
  pub room_cleared : (w : List ℕ) (o : Output) (room : List ℕ) (number place : ℕ) → verdict_of w o (length room) ≡ refused number place → 5 < number
      → room_after w o room ≡ cleared w room
  pub room_answered : (w : List ℕ) (o : Output) (room : List ℕ) (n v : ℕ) → verdict_of w o (length room) ≡ accepted n v
      → room_after w o room ≡ cleared w room
  -- the output: a refusal leaves it as it was, an answer what is beyond it
  pub output_kept : (answer output : List ℕ) (verdict : Outcome) (number place : ℕ) → verdict ≡ refused number place
      → output_after verdict answer output ≡ output
  pub output_answered : (answer output : List ℕ) (verdict : Outcome) (n v : ℕ) → verdict ≡ accepted n v
      → output_after verdict answer output ≡ answer ++ drop (length answer) output
