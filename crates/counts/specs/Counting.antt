-- What the counts are numbers of, and that they fit their words (`counting` of proofs/Turns.antt).
use Rattle.std.specs.Prelude.{ℕ, ◌*◌, ◌<◌, ◌≡◌, Bool, true, List, [], ◌∷◌, length}
use Rattle.naturals.specs.Natural.{limit_in, word_count}
use Rattle.diagram.specs.Diagram.{vars, root, holds, Ordered}
use Rattle.diagram.specs.Valuations.{tally, count_of, weight_of}
use Rattle.counts.specs.Paths.{path_count_of, Path}

-- An entry stands in a list; and no entry stands there twice.
pub data In {A : Type 0} (x : A) : List A → Type 0 where
  here : {l : List A} → In x (x ∷ l)
  there : {y : A} {l : List A} → In x l → In x (y ∷ l)

pub data Once {A : Type 0} : List A → Type 0 where
  none : Once []
  more : {x : A} {l : List A} → (In x l → ⊥) → Once l → Once (x ∷ l)

-- How many things have a property: a list that has each of them once, and nothing else, is so long.
pub record Number {A : Type 0} (P : A → Type 0) (n : ℕ) : Type 0 where
  pub list : List A
  pub count : length list ≡ n
  pub once : Once list
  pub right : (x : A) → In x list → P x
  pub all : (x : A) → P x → In x list

-- n words hold the count, the path count and every weight.
pub record Within (n : ℕ) (w : List ℕ) : Type 0 where
  pub count : count_of w < limit_in n
  pub path_count_lem : path_count_of w < limit_in n
  pub weight : (p : ℕ) → weight_of w p < limit_in n

pub record Counting : Type 0 where
  -- a tally is the number of the lists of k bits that pass its test; so the count is the number of the valuations, one bit for
  -- each variable, for which the array holds
  pub tallies : (k : ℕ) (test : List Bool → Bool) → Number (λ bs. (length bs ≡ k) × (test bs ≡ true)) (tally k test)
  pub valuations : (w : List ℕ) → Number (λ bs. (length bs ≡ vars w) × (holds w bs ≡ true)) (count_of w)
  -- the path count is the number of the paths from the root to node 1
  pub paths : (w : List ℕ) → Ordered w → Number (Path w (root w)) (path_count_of w)
  -- the bound (document 02, E11), for any number of words: they hold the counts of fewer variables than they have bits; so the words of
  -- a count hold those of every ordered array
  pub bound : (n : ℕ) (w : List ℕ) → vars w < 32 * n → Within n w
  pub fits : (w : List ℕ) → Ordered w → Within word_count w
