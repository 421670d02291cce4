-- What is told from the table while two diagrams are compared. Auxiliary: no promise to a caller names it.
use Rattle.std.specs.Prelude.{Option, Some, is_none, ℕ, suc, ◌+◌, ◌-◌, ◌*◌, ◌/◌, ◌^◌, ◌≤◌, ◌<◌, ◌≡◌, cond, not, List, ◌++◌, length, drop, replicate, ltb, eqb}
use Rattle.naturals.specs.Natural.{value, Holds, Answers}
use Rattle.naturals.specs.declared.Natural.{Natural}
use Rattle.diagram.specs.Diagram.{vars, Ordered}
use Rattle.diagram.specs.Valuations.{count_of}
use Rattle.diagram.specs.Verdict.{Outcome, accepted, said, row}
use Rattle.diagram.specs.declared.verdict.Finding.{Finding}
use Rattle.pairs.specs.Pairs.{pair_words, level_of, roots, pairs_of}
use Rattle.worths.specs.Worth.{unlike, beside, worth_from, Listed, pair_at, Worths}
use Rattle.comparison.specs.Comparison.{in_both, any_differ, shown, numeral, least, whole_pairs, Compared, verdict_told, which_told, Tells}
use Rattle.comparison.specs.declared.work.Found.{Found}
use Rattle.comparison.specs.declared.compare.Comparison.{Comparison}

-- All are noted, and a place is the two roots'.
pub record Rooted (a b : List ℕ) (c : ℕ) (t : List ℕ) (place v : ℕ) : Type 0 where
  pub worths : Worths a b c t (pairs_of a b)
  pub inside : place < pairs_of a b
  pub here : pair_at a b place ≡ roots a b
  pub variables : v ≡ vars a

-- The search for the smallest valuation stands at a place and a variable i: the pair there differs from i on.
pub record Searching (a b : List ℕ) (c : ℕ) (t : List ℕ) (place i : ℕ) : Type 0 where
  pub worths : Worths a b c t (pairs_of a b)
  pub inside : place < pairs_of a b
  pub level : i ≤ level_of a b (pair_at a b place)
  pub unlike_from : 0 < worth_from unlike a b i (pair_at a b place)

-- One variable further: the bit that the smallest valuation has there, and the place that it leads to.
pub record Turned (a b : List ℕ) (c : ℕ) (t : List ℕ) (place i place' bit : ℕ) : Type 0 where
  pub searching : Searching a b c t place' (suc i)
  pub small : bit ≤ 1
  pub number : numeral (least (vars a - i) (beside unlike a b i (pair_at a b place)))
      ≡ bit * 2 ^ (vars a - suc i) + numeral (least (vars a - suc i) (beside unlike a b (suc i) (pair_at a b place')))

-- The walk has come to its end: all pairs stand in the table, the two roots at a place.
pub record Arriving (a b : List ℕ) (c : ℕ) (t : List ℕ) (count place v : ℕ) : Type 0 where
  pub listed : Listed a b c t
  pub is_count : count ≡ pairs_of a b
  pub inside : place < pairs_of a b
  pub here : pair_at a b place ≡ roots a b
  pub variables : v ≡ vars a

-- What is worked out in a table of so many places: the pairs are too many, or all is told.
pub record Told (a b : List ℕ) (r : Found) : Type 0 where
  pub pairs : r.pairs ≡ pairs_of a b
  pub both : Holds (in_both a b) r.both.words
  pub smallest : Answers (any_differ a b) (shown a b) r.smallest

pub record Worked (a b : List ℕ) (places : ℕ) (r : Option Found) : Type 0 where
  pub full : is_none r ≡ ltb places (pairs_of a b)
  pub told : (found : Found) → r ≡ Some found → Told a b found

-- An answer from what was worked out and the two diagrams' counts x and y.
pub record Differences (x y : List ℕ) (v : ℕ) (found : Found) (r : Finding Comparison) : Type 0 where
  pub pairs : r.extent.nodes ≡ found.pairs
  pub variables : r.extent.vars ≡ v
  pub first : Holds (value x - value found.both.words) r.value.first.words
  pub second : Holds (value y - value found.both.words) r.value.second.words
  pub both : r.value.both ≡ found.both
  pub smallest : r.value.smallest ≡ found.smallest

-- What the checks of two accepted diagrams have told: their variable counts, and their counts.
pub record Known (a b : List ℕ) (x y : Finding Natural) : Type 0 where
  pub first : Ordered a
  pub second : Ordered b
  pub variables : x.extent.vars ≡ vars a
  pub others : y.extent.vars ≡ vars b
  pub first_count : Holds (count_of a) x.value.words
  pub second_count : Holds (count_of b) y.value.words

-- What is answered then: 31, 32, or all is told.
unfoldable pub beside_of : List ℕ → List ℕ → ℕ → Outcome
beside_of a b table =
    row 31 (not (eqb (vars a) (vars b))) 0
    (row 32 (ltb (table / pair_words) (pairs_of a b)) 0
    (accepted (pairs_of a b) (vars a)))

pub record Besides (a b table table' : List ℕ) (r : Compared) : Type 0 where
  pub verdict : said (verdict_told r) ≡ beside_of a b (length table)
  pub which : which_told r ≡ 0
  pub tells : Tells a b (beside_of a b (length table)) r
  pub table_left_lem : table' ≡ cond (eqb (vars a) (vars b)) (replicate (whole_pairs table) 0 ++ drop (whole_pairs table) table) table
