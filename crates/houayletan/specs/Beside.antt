-- A call on a pool with the first records of a row in words: for the code inside, no promise to a caller names this file.
use Rattle.std.specs.Prelude.{ℕ, ◌*◌, ◌≡◌, List, take}
use Rattle.diagram.specs.Verdict.{Verdict, said}
use Rattle.summary.specs.Summary.{record_words}
use Rattle.houayletan.specs.declared.pooling.Told.{Told}
use Rattle.flat.specs.Flat.{flat_of, Flat}

-- A verdict laid flat, which has the variables where it is accepted and else none: so many records have changed.
pub record Tells (v : Verdict) (r : Told) : Type 0 where
  pub flat : r.verdict ≡ flat_of (said v)
  pub records : r.records ≡ r.verdict.vars

-- What an operation promises, of the words of so many records.
pub record Worded (count : ℕ) (promise : List ℕ → List ℕ → Verdict → Type 0) (words words' : List ℕ) (r : Told) : Type 0 where
  pub kept : Flat (promise (take (record_words * count) words) (take (record_words * count) words')) r.verdict
  pub records : r.records ≡ r.verdict.vars
