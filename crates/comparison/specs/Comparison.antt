-- Two diagrams a and b beside each other (document 02, E1).
use Rattle.std.specs.Prelude.{Option, Some, None, is_some, Result, Ok, Err, ℕ, zero, suc, ◌+◌, ◌*◌, ◌/◌, ◌^◌, ◌≡◌, Bool, true, false, cond, not, ◌&&◌, ◌||◌, List, [], ◌∷◌, ◌++◌, length, drop, replicate, ltb, eqb}
use Rattle.naturals.specs.Natural.{word_count, Holds}
use Rattle.naturals.specs.declared.Natural.{Natural}
use Rattle.diagram.specs.Diagram.{vars, holds}
use Rattle.diagram.specs.Valuations.{tally}
use Rattle.diagram.specs.Verdict.{Verdict, Outcome, accepted, said, row, and_then, if_accepted, verdict_of, room_after}
use Rattle.diagram.specs.declared.verdict.Finding.{Finding}
use Rattle.diagram.specs.declared.verdict.Output.TheVariants.{Nothing}
use Rattle.pairs.specs.Pairs.{pair_words, pairs_of}
use Rattle.comparison.specs.declared.compare.Comparison.{Comparison}
use Rattle.comparison.specs.declared.compare.ComparisonRefused.{ComparisonRefused}
use Rattle.comparison.specs.declared.compare.Which.{Which}
use Rattle.comparison.specs.declared.compare.Which.TheVariants.{First, Second}

-- ---- what is told

-- A valuation holds in the first only; in both; and the two differ in it.
abbrev pub only : List ℕ → List ℕ → List Bool → Bool
only a b bs = holds a bs && not (holds b bs)

abbrev pub both : List ℕ → List ℕ → List Bool → Bool
both a b bs = holds a bs && holds b bs

abbrev pub differ : List ℕ → List ℕ → List Bool → Bool
differ a b bs = only a b bs || only b a bs

abbrev pub first_only : List ℕ → List ℕ → ℕ
first_only a b = tally (vars a) (only a b)

abbrev pub second_only : List ℕ → List ℕ → ℕ
second_only a b = tally (vars a) (only b a)

abbrev pub in_both : List ℕ → List ℕ → ℕ
in_both a b = tally (vars a) (both a b)

abbrev pub any_differ : List ℕ → List ℕ → Bool
any_differ a b = ltb 0 (tally (vars a) (differ a b))

-- A valuation as a number: variable 0 weighs most.
unfoldable pub numeral : List Bool → ℕ
numeral [] = 0
numeral (bit ∷ bs) = cond bit (2 ^ length bs) 0 + numeral bs

-- The smallest of the lists of k bits that pass a test, where one does: it begins with 0 if one that does begins so.
unfoldable pub least : ℕ → (List Bool → Bool) → List Bool
least zero test = []
least (suc k) test =
    let low = false ∷ least k (λ bs. test (false ∷ bs)) in
    let high = true ∷ least k (λ bs. test (true ∷ bs)) in
    cond (ltb 0 (tally k (λ bs. test (false ∷ bs)))) low high

-- The smallest valuation in which they differ, as a number; 0 where there is none.
abbrev pub shown : List ℕ → List ℕ → ℕ
shown a b = cond (any_differ a b) (numeral (least (vars a) (differ a b))) 0

-- ---- the verdict

-- The first diagram's own refusals, then the second's, then 31.
unfoldable pub alike_of : List ℕ → List ℕ → ℕ → Outcome
alike_of a b room =
    and_then (verdict_of a Nothing room)
    (and_then (verdict_of b Nothing room)
    (row 31 (not (eqb (vars a) (vars b))) 0
    (accepted (pairs_of a b) (vars a))))

-- Then 32. Accepted, it has the number of the pairs in place of that of the nodes.
unfoldable pub compare_of : List ℕ → List ℕ → ℕ → ℕ → Outcome
compare_of a b room table =
    and_then (alike_of a b room)
    (row 32 (ltb (table / pair_words) (pairs_of a b)) 0
    (accepted (pairs_of a b) (vars a)))

-- The diagram that a refusal is about: 0 the first, or none, and 1 the second.
abbrev pub which_of : List ℕ → List ℕ → ℕ → ℕ
which_of a b room = if_accepted (verdict_of a Nothing room) (if_accepted (verdict_of b Nothing room) 0 1) 0

-- ---- what is left

-- The second check runs where the first accepts, in the room that the first has left.
abbrev pub room_left : List ℕ → List ℕ → List ℕ → List ℕ
room_left a b room = if_accepted (verdict_of a Nothing (length room)) (room_after b Nothing (room_after a Nothing room)) (room_after a Nothing room)

-- Refusal 31 and those before it leave the table as it was; 32, and all answers, leave its whole pairs zero and the rest as it was.
abbrev pub whole_pairs : List ℕ → ℕ
whole_pairs table = pair_words * (length table / pair_words)

abbrev pub table_left : List ℕ → List ℕ → ℕ → List ℕ → List ℕ
table_left a b room table = if_accepted (alike_of a b room) (replicate (whole_pairs table) 0 ++ drop (whole_pairs table) table) table

-- ---- what the code answers, number by number: all are zero where it is refused

abbrev pub Compared : Type 0
Compared = Result (Finding Comparison) ComparisonRefused

abbrev pub which_number : Which → ℕ
which_number First = 0
which_number Second = 1

abbrev pub verdict_told : Compared → Verdict
verdict_told (Ok x) = Ok x.extent
verdict_told (Err e) = Err e.refused

abbrev pub which_told : Compared → ℕ
which_told (Ok x) = 0
which_told (Err e) = which_number e.which

abbrev pub first_told : Compared → List ℕ
first_told (Ok x) = x.value.first.words
first_told (Err e) = replicate word_count 0

abbrev pub second_told : Compared → List ℕ
second_told (Ok x) = x.value.second.words
second_told (Err e) = replicate word_count 0

abbrev pub both_told : Compared → List ℕ
both_told (Ok x) = x.value.both.words
both_told (Err e) = replicate word_count 0

-- They differ where there is a smallest such valuation; its words, and those of zero where there is none.
abbrev pub differ_told : Compared → Bool
differ_told (Ok x) = is_some x.value.smallest
differ_told (Err e) = false

abbrev pub words_of : Option Natural → List ℕ
words_of (Some a) = a.words
words_of None = replicate word_count 0

abbrev pub smallest_told : Compared → List ℕ
smallest_told (Ok x) = words_of x.value.smallest
smallest_told (Err e) = replicate word_count 0

-- ---- the contract: all that is answered, the room and the table, for any words

pub record Tells (a b : List ℕ) (outcome : Outcome) (r : Compared) : Type 0 where
  pub first : Holds (if_accepted outcome (first_only a b) 0) (first_told r)
  pub second : Holds (if_accepted outcome (second_only a b) 0) (second_told r)
  pub both : Holds (if_accepted outcome (in_both a b) 0) (both_told r)
  pub differ : differ_told r ≡ if_accepted outcome (any_differ a b) false
  pub smallest : Holds (if_accepted outcome (shown a b) 0) (smallest_told r)

pub record Compare (a b room room' table table' : List ℕ) (r : Compared) : Type 0 where
  pub verdict : said (verdict_told r) ≡ compare_of a b (length room) (length table)
  pub which : which_told r ≡ which_of a b (length room)
  pub tells : Tells a b (compare_of a b (length room) (length table)) r
  pub room_left_lem : room' ≡ room_left a b room
  pub table_left_lem : table' ≡ table_left a b (length room) table
