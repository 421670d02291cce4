-- The table of the pairs met, in lent words. Auxiliary: no promise to a caller names it. A table with places
-- for c pairs has
--     from 0 on           for each of c buckets the successor of the last place whose pair is in it, or 0
--     from c on           four words for each place: the pair, the place before it in its bucket, as above, and its two children's places
--     from counts_from on  a count for each place
--     from flags_from on   a word for each place
use Rattle.std.specs.Prelude.{Option, Some, None, ℕ, suc, ◌+◌, ◌-◌, ◌*◌, ◌/◌, ◌%◌, ◌≤◌, ◌<◌, min, ◌≡◌, ◌≢◌, true, false, List, length, get_or, set}
use Rattle.diagram.specs.Limits.{max_nodes}
use Rattle.diagram.specs.Diagram.{size, vars, Ordered}
use Rattle.pairs.specs.declared.walk.Met.{Met as MetAt}
use Rattle.pairs.specs.Pairs.{max_pairs, Pair, pair, next, ended, meet_from}

-- ---- the layout

-- The words of a place's record and of its count. For each place there are as many as its bucket's, its record's, its count's and its flag's.
abbrev pub record_words : ℕ
record_words = 4

abbrev pub count_words : ℕ
count_words = 16

abbrev pub words_before_counts : ℕ
words_before_counts = 1 + record_words

abbrev pub words_before_flags : ℕ
words_before_flags = words_before_counts + count_words

abbrev pub place_words : ℕ
place_words = words_before_flags + 1

abbrev pub head_in : List ℕ → ℕ → ℕ
head_in t h = get_or t h 0

abbrev pub key_in : ℕ → List ℕ → ℕ → ℕ
key_in c t i = get_or t (c + record_words * i) 0

abbrev pub before_in : ℕ → List ℕ → ℕ → ℕ
before_in c t i = get_or t (c + record_words * i + 1) 0

abbrev pub low_in : ℕ → List ℕ → ℕ → ℕ
low_in c t i = get_or t (c + record_words * i + 2) 0

abbrev pub high_in : ℕ → List ℕ → ℕ → ℕ
high_in c t i = get_or t (c + record_words * i + 3) 0

abbrev pub counts_from : ℕ → ℕ
counts_from c = words_before_counts * c

abbrev pub flags_from : ℕ → ℕ
flags_from c = words_before_flags * c

abbrev pub table_to : ℕ → ℕ
table_to c = place_words * c

-- A pair as one word, and its bucket: the word mixed to 32 bits, and these scaled.
abbrev pub key_of : Pair → ℕ
key_of x = x.first * max_nodes + x.second

unfoldable pub bucket_of : ℕ → ℕ → ℕ
bucket_of c key = key * 2654435761 % 4294967296 * c / 4294967296

-- ---- chains, for any numbering of places by buckets

-- x is the successor of the last place below n in bucket h, or 0 where there is none.
pub record Last (bucket : ℕ → ℕ) (h n x : ℕ) : Type 0 where
  pub inside : x ≤ n
  pub like : x ≢ 0 → bucket (x - 1) ≡ h
  pub passed : (i : ℕ) → x ≤ i → i < n → bucket i ≢ h

pub record Chains (bucket : ℕ → ℕ) (c n : ℕ) (head before : ℕ → ℕ) : Type 0 where
  pub heads : (h : ℕ) → h < c → Last bucket h n (head h)
  pub befores : (i : ℕ) → i < n → Last bucket (bucket i) i (before i)

-- A search along a chain for a key stands at x: the key is at no place from x on.
pub record Seeking (key : ℕ → ℕ) (bucket : ℕ → ℕ) (h n k x : ℕ) : Type 0 where
  pub inside : x ≤ n
  pub like : x ≢ 0 → bucket (x - 1) ≡ h
  pub passed : (i : ℕ) → x ≤ i → i < n → key i ≢ k

-- ---- the table

abbrev pub at : List Pair → ℕ → Pair
at s i = get_or s i (pair 0 0)

-- There is room for c pairs.
pub record Space (c : ℕ) (t : List ℕ) : Type 0 where
  pub some : 0 < c
  pub few : c ≤ max_pairs
  pub long : table_to c ≤ length t

-- n places, linked.
pub record Linked (c : ℕ) (t : List ℕ) (n : ℕ) : Type 0 where
  pub space : Space c t
  pub fits : n ≤ c
  pub chains : Chains (λ i. bucket_of c (key_in c t i)) c n (head_in t) (before_in c t)

-- What a search among n places answers: a place with the key, or none where there is none.
pub record Sought (c : ℕ) (t : List ℕ) (n key : ℕ) (r : Option ℕ) : Type 0 where
  pub here : (i : ℕ) → r ≡ Some i → (i < n) × (key_in c t i ≡ key)
  pub absent : r ≡ None → (i : ℕ) → i < n → key_in c t i ≢ key

-- A key is written at place n, and becomes the last in its bucket.
unfoldable pub entered : ℕ → List ℕ → ℕ → ℕ → ℕ → ℕ → List ℕ
entered c t n key low high =
    set (set (set (set (set t (c + record_words * n) key) (c + record_words * n + 1) (get_or t (bucket_of c key) 0)) (c + record_words * n + 2) low) (c + record_words * n + 3) high) (bucket_of c key) (suc n)

-- A pair is entered behind n others, if there is a place for it.
pub record Adding (c : ℕ) (t : List ℕ) (n : ℕ) (x : Pair) (low high : ℕ) : Type 0 where
  pub linked : Linked c t n
  pub first : x.first < max_nodes
  pub second : x.second < max_nodes
  pub low_small : low < max_pairs
  pub high_small : high < max_pairs

pub record Added (c : ℕ) (t : List ℕ) (n : ℕ) (x : Pair) (low high : ℕ) (t' : List ℕ) (place k' : ℕ) : Type 0 where
  pub full : n ≡ c → k' ≡ suc c
  pub stands : n < c → (place ≡ n) × (k' ≡ suc n) × (t' ≡ entered c t n (key_of x) low high)

-- The pair at place i is one of two nodes; it has ended, or its children stand at earlier places.
pub record Settled (a b : List ℕ) (c : ℕ) (s : List Pair) (t : List ℕ) (i : ℕ) : Type 0 where
  pub first : (at s i).first < size a
  pub second : (at s i).second < size b
  pub low_before : ended (at s i) ≡ false → low_in c t i < i
  pub low : ended (at s i) ≡ false → at s (low_in c t i) ≡ next a b (at s i) false
  pub high_before : ended (at s i) ≡ false → high_in c t i < i
  pub high : ended (at s i) ≡ false → at s (high_in c t i) ≡ next a b (at s i) true

-- The pairs s stand in the table; and their chains do too.
pub record Standing (a b : List ℕ) (c : ℕ) (s : List Pair) (t : List ℕ) : Type 0 where
  pub fits : length s ≤ c
  pub held : (i : ℕ) → i < length s → key_in c t i ≡ key_of (at s i)
  pub settled : (i : ℕ) → i < length s → Settled a b c s t i

pub record Tabled (a b : List ℕ) (c : ℕ) (s : List Pair) (t : List ℕ) : Type 0 where
  pub standing : Standing a b c s t
  pub chains : Chains (λ i. bucket_of c (key_in c t i)) c (length s) (head_in t) (before_in c t)

-- ---- the walk

-- Two diagrams of one variable count.
pub record Alike (a b : List ℕ) : Type 0 where
  pub first : Ordered a
  pub second : Ordered b
  pub variables : vars a ≡ vars b

pub record Walking (a b : List ℕ) (c : ℕ) (t : List ℕ) (k : ℕ) (x : Pair) : Type 0 where
  pub alike : Alike a b
  pub space : Space c t
  pub first : x.first < size a
  pub second : x.second < size b
  pub pairs : List Pair
  pub tabled : Tabled a b c pairs t
  pub count : length pairs ≡ k

-- A pair stands at a place of a table that has s.
pub record Arrived (a b : List ℕ) (c : ℕ) (s : List Pair) (t : List ℕ) (x : Pair) (place : ℕ) : Type 0 where
  pub tabled : Tabled a b c s t
  pub inside : place < length s
  pub here : at s place ≡ x

-- The outcome of a walk that should leave the pairs s: how many they are, and all stand in the table; or, exactly where there are more of
-- them than places, one more than there are places.
pub record Met (a b : List ℕ) (c : ℕ) (s : List Pair) (t' : List ℕ) (x : Pair) (place k' : ℕ) : Type 0 where
  pub is_count : k' ≡ min (length s) (suc c)
  pub arrived : k' ≤ c → Arrived a b c s t' x place

-- What the walk from x on gives, whatever pairs stand in the table before.
pub record Walked (a b : List ℕ) (c : ℕ) (t : List ℕ) (k : ℕ) (x : Pair) (t' : List ℕ) (place k' : ℕ) : Type 0 where
  pub meets : (s : List Pair) → Tabled a b c s t → length s ≡ k → Met a b c (meet_from a b x s) t' x place k'

-- The same of the walk over all pairs: their number, and all stand in the table; or, exactly where there are more of them than places, none.
pub record MetAll (a b : List ℕ) (c : ℕ) (s : List Pair) (t' : List ℕ) (x : Pair) (r : Option MetAt) : Type 0 where
  pub full : r ≡ None → c < length s
  pub is_count : (m : MetAt) → r ≡ Some m → m.count ≡ length s
  pub arrived : (m : MetAt) → r ≡ Some m → Arrived a b c s t' x m.place
