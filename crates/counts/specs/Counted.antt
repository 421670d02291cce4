-- What a count answers: the check's verdict, the number, and the working room as the check leaves it.
use Rattle.std.specs.Prelude.{Result, Ok, Err, ℕ, List, length, replicate}
use Rattle.naturals.specs.Natural.{word_count, Holds}
use Rattle.naturals.specs.declared.Natural.{Natural}
use Rattle.diagram.specs.declared.verdict.Finding.{Finding}
use Rattle.diagram.specs.declared.verdict.Refused.{Refused}
use Rattle.diagram.specs.Verdict.{Verdict, verdict_of, if_accepted, Checked}
use Rattle.diagram.specs.declared.verdict.Output.TheVariants.{Nothing}

-- The words of a count: those of zero where the words are refused.
abbrev pub words_in : Result (Finding Natural) Refused → List ℕ
words_in (Ok found) = found.value.words
words_in (Err e) = replicate word_count 0

-- The count is n, and zero where the words are refused.
pub record Counts (w : List ℕ) (n : ℕ) (room room' : List ℕ) (r : Verdict) (count : List ℕ) : Type 0 where
  pub checked : Checked w Nothing room room' r
  pub counted : Holds (if_accepted (verdict_of w Nothing (length room)) n 0) count
