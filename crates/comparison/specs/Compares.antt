-- What is promised of the comparison, in document 02's words (`compares` of proofs/Promised.antt).
use Rattle.std.specs.Prelude.{ℕ, ◌+◌, ◌/◌, ◌≤◌, ◌<◌, ◌≡◌, ◌↔◌, ◌≢◌, Bool, true, false, List, length}
use Rattle.diagram.specs.Diagram.{vars, holds, Accepted}
use Rattle.diagram.specs.Valuations.{count_of}
use Rattle.diagram.specs.Verdict.{accepted, refused, room_of}
use Rattle.counts.specs.Counting.{Number}
use Rattle.pairs.specs.Pairs.{pair_words, Reached}
use Rattle.comparison.specs.Comparison.{differ, first_only, second_only, in_both, any_differ, numeral, least, compare_of}

-- Both diagrams are accepted, and the room is long enough for each.
pub record BothAccepted (a b : List ℕ) (room : ℕ) : Type 0 where
  pub first : Accepted a
  pub second : Accepted b
  pub first_fits : room_of a ≤ room
  pub second_fits : room_of b ≤ room

-- A valuation is the smallest of those of k bits that pass a test.
pub record Smallest (k : ℕ) (test : List Bool → Bool) (bs : List Bool) : Type 0 where
  pub long : length bs ≡ k
  pub passes : test bs ≡ true
  pub least : (cs : List Bool) → length cs ≡ k → test cs ≡ true → numeral bs ≤ numeral cs

pub record Compares : Type 0 where
  -- 31 exactly where both are accepted and their variable counts are not equal
  pub thirty_one : (a b : List ℕ) (room table place : ℕ)
      → (compare_of a b room table ≡ refused 31 place) ↔ (BothAccepted a b room × (vars a ≢ vars b) × (place ≡ 0))
  -- 32 exactly where both are accepted, with one variable count, and more pairs are reached than the table has room for; n is how many
  pub thirty_two : (a b : List ℕ) (room table place n : ℕ) → Number (Reached a b) n
      → (compare_of a b room table ≡ refused 32 place) ↔ (BothAccepted a b room × (vars a ≡ vars b) × (table / pair_words < n) × (place ≡ 0))
  -- else it is answered, with the number of pairs and the variable count
  pub answered : (a b : List ℕ) (room table n v : ℕ) → Number (Reached a b) n
      → (compare_of a b room table ≡ accepted n v) ↔ (BothAccepted a b room × (vars a ≡ vars b) × (n ≤ table / pair_words) × (v ≡ vars a))
  -- what is counted
  pub first_only_lem : (a b : List ℕ) → Number (λ bs. (length bs ≡ vars a) × (holds a bs ≡ true) × (holds b bs ≡ false)) (first_only a b)
  pub second_only_lem : (a b : List ℕ) → Number (λ bs. (length bs ≡ vars a) × (holds a bs ≡ false) × (holds b bs ≡ true)) (second_only a b)
  pub in_both_lem : (a b : List ℕ) → Number (λ bs. (length bs ≡ vars a) × (holds a bs ≡ true) × (holds b bs ≡ true)) (in_both a b)
  -- they fit the counts of the two
  pub first_whole : (a b : List ℕ) → first_only a b + in_both a b ≡ count_of a
  pub second_whole : (a b : List ℕ) → vars a ≡ vars b → second_only a b + in_both a b ≡ count_of b
  -- what is shown: a valuation in which they differ, and no smaller one does; or there is none, and both hold for the same
  pub shows : (a b : List ℕ) → any_differ a b ≡ true → Smallest (vars a) (differ a b) (least (vars a) (differ a b))
  pub differs : (a b : List ℕ) (bs : List Bool) → (differ a b bs ≡ true) ↔ (holds a bs ≢ holds b bs)
  pub none : (a b : List ℕ) → any_differ a b ≡ false → (bs : List Bool) → length bs ≡ vars a → holds a bs ≡ holds b bs
