-- The answers as C and Rust see them: each operation's own promise, and its verdict as document 01's number and values.
use Rattle.std.specs.Prelude.{ℕ, ◌≡◌, Bool, cond, not, List, eqb, Float}
use Rattle.diagram.specs.Verdict.{Verdict, Outcome, accepted, refused, said}
use Rattle.blocks.specs.Block.{Stored, Outcome as Filed, nodes as filed, refused as unfiled, said as said_of}
use Rattle.comparison.specs.Comparison.{Compared, verdict_told, which_told, differ_told, first_told, second_told, both_told, smallest_told}
use Rattle.flat.specs.declared.HouayletanCount.{HouayletanCount}
use Rattle.flat.specs.declared.HouayletanFloat.{HouayletanFloat}
use Rattle.flat.specs.declared.HouayletanDiagram.{HouayletanDiagram}
use Rattle.flat.specs.declared.HouayletanApproximation.{HouayletanApproximation}
use Rattle.flat.specs.declared.HouayletanAmount.{HouayletanAmount}
use Rattle.flat.specs.declared.HouayletanComparison.{HouayletanComparison}
use Rattle.flat.specs.declared.HouayletanStored.{HouayletanStored}
use Rattle.flat.specs.declared.HouayletanVerdict.{HouayletanVerdict}

-- Number 0 says accepted, with the counts n and v; a refusal has its number and place, and all else is 0.
abbrev pub flat_of : Outcome → HouayletanVerdict
flat_of (accepted n v) = record { number = 0; place = 0; nodes = n; vars = v }
flat_of (refused number place) = record { number = number; place = place; nodes = 0; vars = 0 }

-- What an operation promises of its verdict, which is then laid flat.
pub record Flat (promise : Verdict → Type 0) (r : HouayletanVerdict) : Type 0 where
  pub verdict : Verdict
  pub kept : promise verdict
  pub flat : r ≡ flat_of (said verdict)

-- The same where a number stands beside the verdict: the words of a count, a count as an f64, an amount, the nodes in the
-- output, or these and the trials.
abbrev pub FlatCount : (Verdict → List ℕ → Type 0) → HouayletanCount → Type 0
FlatCount promise r = Flat (λ v. promise v r.count) r.verdict

abbrev pub FlatFloat : (Verdict → Float → Type 0) → HouayletanFloat → Type 0
FlatFloat promise r = Flat (λ v. promise v r.count) r.verdict

abbrev pub FlatAmount : (Verdict → ℕ → Type 0) → HouayletanAmount → Type 0
FlatAmount promise r = Flat (λ v. promise v r.amount) r.verdict

abbrev pub FlatDiagram : (Verdict → ℕ → Type 0) → HouayletanDiagram → Type 0
FlatDiagram promise r = Flat (λ v. promise v r.nodes) r.verdict

abbrev pub FlatTarget : (Verdict → ℕ → ℕ → Type 0) → HouayletanApproximation → Type 0
FlatTarget promise r = Flat (λ v. promise v r.nodes r.trials) r.verdict

-- A file's answer likewise: number 0 says that it was read or written, with its nodes; a refusal has its number and place, and no nodes.
abbrev pub flat_stored : Filed → HouayletanStored
flat_stored (filed n) = record { number = 0; place = 0; nodes = n }
flat_stored (unfiled number place) = record { number = number; place = place; nodes = 0 }

-- What reading or writing promises of its answer, which is then laid flat.
pub record FlatStored (promise : Stored → Type 0) (r : HouayletanStored) : Type 0 where
  pub stored : Stored
  pub kept : promise stored
  pub flat : r ≡ flat_stored (said_of stored)

-- A flag as C has it: 0 is a no, anything else a yes.
abbrev pub flagged : ℕ → Bool
flagged x = not (eqb x 0)

-- A yes as 1 and a no as 0.
abbrev pub bit : Bool → ℕ
bit b = cond b 1 0

-- What two diagrams are beside each other, field by field.
pub record Laid (c : Compared) (r : HouayletanComparison) : Type 0 where
  pub verdict : r.verdict ≡ flat_of (said (verdict_told c))
  pub which : r.which ≡ which_told c
  pub differ : r.differ ≡ bit (differ_told c)
  pub first : r.first ≡ first_told c
  pub second : r.second ≡ second_told c
  pub both : r.both ≡ both_told c
  pub smallest : r.smallest ≡ smallest_told c

-- What the comparison promises of its answer, which is then laid flat.
pub record FlatCompared (promise : Compared → Type 0) (r : HouayletanComparison) : Type 0 where
  pub compared : Compared
  pub kept : promise compared
  pub flat : Laid compared r
