-- What each pair is worth, as it stands in the table. Auxiliary: no promise to a caller names it.
use Rattle.std.specs.Prelude.{ℕ, ◌+◌, ◌-◌, ◌<◌, ◌≡◌, Bool, true, false, cond, not, ◌&&◌, List, get_or, ltb}
use Rattle.naturals.specs.Natural.{Holds}
use Rattle.diagram.specs.Diagram.{vars}
use Rattle.diagram.specs.Reading.{eval}
use Rattle.diagram.specs.Valuations.{tally}
use Rattle.counts.specs.Table.{entry}
use Rattle.pairs.specs.Pairs.{Pair, level_of, ended, all_of, pairs_of}
use Rattle.pairs.specs.Table.{counts_from, flags_from, at, Space, Standing, Alike}

-- One of two is true and the other isn't.
unfoldable pub unlike : Bool → Bool → Bool
unlike true y = not y
unlike false y = y

-- The two sides of a pair beside each other, read from variable i on; and how many valuations of the variables from the pair's own on
-- pass then.
abbrev pub beside : (Bool → Bool → Bool) → List ℕ → List ℕ → ℕ → Pair → List Bool → Bool
beside op a b i x bs = op (eval a i x.first bs) (eval b i x.second bs)

abbrev pub worth_from : (Bool → Bool → Bool) → List ℕ → List ℕ → ℕ → Pair → ℕ
worth_from op a b i x = tally (vars a - i) (beside op a b i x)

abbrev pub worth : (Bool → Bool → Bool) → List ℕ → List ℕ → Pair → ℕ
worth op a b x = worth_from op a b (level_of a b x) x

-- Whether a pair's two functions differ.
abbrev pub unlike_at : List ℕ → List ℕ → Pair → Bool
unlike_at a b x = ltb 0 (worth unlike a b x)

abbrev pub flag_in : ℕ → List ℕ → ℕ → ℕ
flag_in c t i = get_or t (flags_from c + i) 0

-- All pairs of two diagrams stand in the table.
pub record Listed (a b : List ℕ) (c : ℕ) (t : List ℕ) : Type 0 where
  pub alike : Alike a b
  pub space : Space c t
  pub standing : Standing a b c (all_of a b) t

-- The pair at a place.
abbrev pub pair_at : List ℕ → List ℕ → ℕ → Pair
pair_at a b i = at (all_of a b) i

pub record Placed (a b : List ℕ) (c : ℕ) (t : List ℕ) (place : ℕ) : Type 0 where
  pub listed : Listed a b c t
  pub inside : place < pairs_of a b

-- The counts and flags of the first k places are noted.
pub record Worths (a b : List ℕ) (c : ℕ) (t : List ℕ) (k : ℕ) : Type 0 where
  pub listed : Listed a b c t
  pub count : (i : ℕ) → i < k → Holds (worth ◌&&◌ a b (pair_at a b i)) (entry (counts_from c) t i)
  pub flag : (i : ℕ) → i < k → flag_in c t i ≡ cond (unlike_at a b (pair_at a b i)) 1 0

-- And the next place is one.
pub record Noting (a b : List ℕ) (c : ℕ) (t : List ℕ) (place v : ℕ) : Type 0 where
  pub worths : Worths a b c t place
  pub inside : place < pairs_of a b
  pub variables : v ≡ vars a

-- The pair there has ended, and is p and q; or it has not.
pub record Ending (a b : List ℕ) (place p q : ℕ) : Type 0 where
  pub done : ended (pair_at a b place) ≡ true
  pub first : p ≡ (pair_at a b place).first
  pub second : q ≡ (pair_at a b place).second

pub record Stepping (a b : List ℕ) (place : ℕ) : Type 0 where
  pub going : ended (pair_at a b place) ≡ false

-- Its count is noted too, and not yet its flag.
pub record Counted (a b : List ℕ) (c : ℕ) (t : List ℕ) (place : ℕ) : Type 0 where
  pub worths : Worths a b c t place
  pub inside : place < pairs_of a b
  pub here : Holds (worth ◌&&◌ a b (pair_at a b place)) (entry (counts_from c) t place)
