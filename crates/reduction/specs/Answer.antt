-- What reduction promises for any words, output and working room.
use Rattle.std.specs.Prelude.{ℕ, List}
use Rattle.diagram.specs.Verdict.{Verdict, verdict_for, Builds}
use Rattle.diagram.specs.declared.verdict.Output.TheVariants.{Diagram}
use Rattle.reduction.specs.Reduce.{reduce}

-- The check's verdict, and the reduced diagram in the output.
abbrev pub Reduces : (w room room' out out' : List ℕ) → Verdict → ℕ → Type 0
Reduces w = Builds (verdict_for Diagram w) (reduce w) w
