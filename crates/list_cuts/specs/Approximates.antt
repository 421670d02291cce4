-- What cutting by a list answers (document 01, port 8).
use Rattle.std.specs.Prelude.{ℕ, List}
use Rattle.diagram.specs.Verdict.{Verdict, Outcome, and_then, verdict_for, Builds}
use Rattle.diagram.specs.declared.verdict.Output.TheVariants.{Diagram}
use Rattle.approximation.specs.Cut.{cut, listed, list_of}

-- The check for a diagram as output, then 13 and 14.
abbrev pub cut_verdict : List ℕ → List ℕ → ℕ → ℕ → Outcome
cut_verdict w list room lent = and_then (verdict_for Diagram w room lent) (list_of w list)

-- That verdict, and in the output the cut by the list to terminal t.
abbrev pub Approximates : (w list : List ℕ) (t : ℕ) (room room' out out' : List ℕ) → Verdict → ℕ → Type 0
Approximates w list t = Builds (cut_verdict w list) (cut w (listed list) t) w
