-- A block of 512 bytes (document 01, "The block file"). `s` is a list of bytes, `w` the words of nodes, three each.
use Rattle.std.specs.Prelude.{Result, Ok, Err, ℕ, zero, suc, ◌+◌, ◌-◌, ◌*◌, ◌/◌, ◌%◌, ◌≤◌, ◌<◌, ◌^◌, min, ◌≡◌, Bool, cond, not, ◌&&◌, ◌||◌, List, [], ◌∷◌, ◌++◌, length, get_or, take, drop, replicate, ltb, eqb}
use Rattle.diagram.specs.Diagram.{var_of}
use Rattle.diagram.specs.Refusal.{number_of}
use Rattle.diagram.specs.declared.verdict.Refused.{Refused}

-- ---- the layout

-- bytes of a block; nodes of a full one, and their words; the most nodes of a file, and their words
abbrev pub block_bytes : ℕ
block_bytes = 512

abbrev pub block_nodes : ℕ
block_nodes = 50

abbrev pub block_words : ℕ
block_words = 3 * block_nodes

abbrev pub max_stored : ℕ
max_stored = 120

abbrev pub max_stored_words : ℕ
max_stored_words = 3 * max_stored

-- bytes that the sums are over, all but their own four; where the places for nodes begin and end, and the bytes of one
abbrev pub summed : ℕ
summed = block_bytes - 4

abbrev pub places : ℕ
places = 4

abbrev pub places_end : ℕ
places_end = summed - 4

abbrev pub place_bytes : ℕ
place_bytes = 10

-- ---- bytes, and numbers in them, least byte first

-- how many numbers a byte can be, and two bytes
abbrev pub byte_span : ℕ
byte_span = 256

abbrev pub pair_span : ℕ
pair_span = byte_span * byte_span

abbrev pub Bytes : List ℕ → Type 0
Bytes s = (k : ℕ) → get_or s k 0 < byte_span

-- two and four bytes of a number
abbrev pub two_bytes : ℕ → List ℕ
two_bytes x = x % byte_span ∷ x / byte_span % byte_span ∷ []

abbrev pub four_bytes : ℕ → List ℕ
four_bytes x = two_bytes x ++ two_bytes (x / pair_span)

-- the number in two and in four bytes at a place
abbrev pub two : List ℕ → ℕ → ℕ
two s at = get_or s at 0 + byte_span * get_or s (at + 1) 0

abbrev pub four : List ℕ → ℕ → ℕ
four s at = two s at + pair_span * two s (at + 2)

-- ---- the sums: of the bytes, and of (position + 1) × byte

unfoldable pub total : List ℕ → ℕ
total [] = 0
total (b ∷ s) = b + total s

unfoldable pub weighted : ℕ → List ℕ → ℕ
weighted i [] = 0
weighted i (b ∷ s) = i * b + weighted (suc i) s

-- ---- what is written

-- ten bytes for a node: variable 2, low 4, high 4
abbrev pub node_bytes : ℕ → ℕ → ℕ → List ℕ
node_bytes var low high = two_bytes var ++ four_bytes low ++ four_bytes high

unfoldable pub nodes_bytes : List ℕ → List ℕ
nodes_bytes (var ∷ low ∷ high ∷ w) = node_bytes var low high ++ nodes_bytes w
nodes_bytes [] = []
nodes_bytes (a ∷ []) = []
nodes_bytes (a ∷ b ∷ []) = []

-- 0–1 block number, 2–3 nodes in this block, 4–503 fifty places of which the unused are zero, 504–507 nodes in the file
unfoldable pub front : ℕ → ℕ → List ℕ → List ℕ
front nodes number w =
    two_bytes number
    ++ two_bytes (length w / 3)
    ++ nodes_bytes w
    ++ replicate (places_end - places - place_bytes * (length w / 3)) 0
    ++ four_bytes nodes

-- 508–509 the sum, 510–511 the weighted sum, both modulo 65,536, which two bytes are
unfoldable pub block_of : ℕ → ℕ → List ℕ → List ℕ
block_of nodes number w = front nodes number w ++ two_bytes (total (front nodes number w)) ++ two_bytes (weighted 1 (front nodes number w))

-- bytes and behind them the two sums of them, as in a block
abbrev pub sealed : List ℕ → List ℕ
sealed s = s ++ two_bytes (total s) ++ two_bytes (weighted 1 s)

-- every block but the last holds fifty nodes: so many does a block hold in a file of n
abbrev pub here : ℕ → ℕ → ℕ
here n number = min block_nodes (n - block_nodes * number)

-- ---- what is read

abbrev pub node_at : List ℕ → ℕ → List ℕ
node_at s at = two s at ∷ four s (at + 2) ∷ four s (at + 6) ∷ []

unfoldable pub nodes_at : List ℕ → ℕ → ℕ → List ℕ
nodes_at s at zero = []
nodes_at s at (suc c) = node_at s at ++ nodes_at s (at + place_bytes) c

-- the nodes in a block; its unused bytes, where it holds some number of nodes
abbrev pub nodes_in : List ℕ → List ℕ
nodes_in s = nodes_at s places (two s 2)

abbrev pub unused : List ℕ → ℕ → List ℕ
unused s held = take (places_end - (places + place_bytes * held)) (drop (places + place_bytes * held) s)

-- both sums are what the block says
unfoldable pub sums_right : List ℕ → Bool
sums_right s = eqb (two s summed) (total (take summed s) % pair_span) && eqb (two s (summed + 2)) (weighted 1 (take summed s) % pair_span)

-- the block's number is the one due; a later block states the nodes that the first one stated; the block holds some
-- nodes, as many as its number and the nodes in the file say
unfoldable pub counts_right : ℕ → ℕ → List ℕ → Bool
counts_right number stated s =
    eqb (two s 0) number
    && ((eqb number 0 || eqb (four s places_end) stated)
    && (ltb 0 (two s 2)
    && eqb (two s 2) (here (four s places_end) number)))

-- ---- the answers

-- the number of nodes in the file, or refused with number and place
pub data Outcome : Type 0 where
  nodes : ℕ → Outcome
  refused : ℕ → ℕ → Outcome

-- What the code's answer says.
abbrev pub Stored : Type 0
Stored = Result ℕ Refused

abbrev pub said : Stored → Outcome
said (Ok n) = nodes n
said (Err e) = refused (number_of e.reason) e.place

unfoldable pub row : ℕ → Bool → ℕ → Outcome → Outcome
row number test place below = cond test (refused number place) below

-- The tests of the block due, with this number, in their order; `stated` is what the first block stated and `lent` the
-- length of the output. The place is the number of the block due.
unfoldable pub block_outcome : ℕ → ℕ → List ℕ → ℕ → Outcome
block_outcome number stated s lent =
    row 21 (ltb (length s) block_bytes) number
    (row 22 (not (sums_right s)) number
    (row 23 (not (counts_right number stated s)) number
    (row 25 (ltb max_stored (four s places_end)) number
    (row 24 (not (eqb (total (unused s (two s 2))) 0)) number
    (row 4 (ltb lent (block_words * number + 3 * two s 2)) number
    (nodes (four s places_end)))))))

-- The output after the block due: its nodes at their place where the block is taken, else as it was.
unfoldable pub block_output : ℕ → List ℕ → List ℕ → Outcome → List ℕ
block_output number s out (nodes n) = take (block_words * number) out ++ nodes_in s ++ drop (block_words * number + 3 * two s 2) out
block_output number s out (refused k p) = out

-- What reading the block due says and leaves.
pub record Reads (number stated : ℕ) (s before after : List ℕ) (r : Stored) : Type 0 where
  pub answer : said r ≡ block_outcome number stated s (length before)
  pub left : after ≡ block_output number s before (block_outcome number stated s (length before))

-- What may be written as one block: whole nodes, at most fifty, and numbers that fit their bytes.
pub record Whole (nodes number : ℕ) (w : List ℕ) : Type 0 where
  pub whole : length w ≡ 3 * (length w / 3)
  pub few : length w ≤ block_words
  pub narrow : (p : ℕ) → var_of w p < pair_span
  pub counted : nodes < 2 ^ 32
  pub numbered : number < pair_span
