-- What the answers of `is_clause` and `is_valuation` mean, on any ordered array and so on any accepted one (`clauses` of
-- proofs/Cubes.antt).
use Rattle.std.specs.Prelude.{ℕ, ◌≡◌, ◌≢◌, Bool, true, false, not, ◌&&◌, List, [], ◌∷◌, length}
use Rattle.diagram.specs.Diagram.{vars, holds, Ordered}
use Rattle.diagram.specs.Valuations.{count_of}
use Rattle.reduction.specs.Reduce.{reduce}
use Rattle.queries.specs.Queries.{is_clause, is_valuation}

-- What a conjunction asks of a variable: to be 1, to be 0, or nothing.
pub data Literal : Type 0 where
  one : Literal
  nought : Literal
  either : Literal

unfoldable pub agrees : Literal → Bool → Bool
agrees one b = b
agrees nought b = not b
agrees either b = true

-- A conjunction of literals, one entry for each variable, holds where every bit agrees.
unfoldable pub conjunction : List Literal → List Bool → Bool
conjunction [] bs = true
conjunction (l ∷ ls) [] = false
conjunction (l ∷ ls) (b ∷ bs) = agrees l b && conjunction ls bs

-- An array that stands for such a conjunction.
pub record Clause (w : List ℕ) : Type 0 where
  pub literals : List Literal
  pub each : length literals ≡ vars w
  pub same : (bs : List Bool) → length bs ≡ vars w → holds w bs ≡ conjunction literals bs

pub record Clauses : Type 0 where
  -- a yes is right: the array stands for one conjunction of literals; it holds for exactly one valuation
  pub clause_yes : (w : List ℕ) → Ordered w → is_clause w ≡ true → Clause w
  pub valuation_yes : (w : List ℕ) → Ordered w → is_valuation w ≡ true → count_of w ≡ 1
  -- and on a reduced array so is a no
  pub clause_no : (w : List ℕ) → Ordered w → reduce w ≡ w → is_clause w ≡ false → Clause w → ⊥
  pub valuation_no : (w : List ℕ) → Ordered w → reduce w ≡ w → is_valuation w ≡ false → count_of w ≢ 1
