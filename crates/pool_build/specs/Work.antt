-- Where the conditions of a pool are built anew, and what the functions ask and promise. No promise to a caller names this file. A store with as
-- many places as the table has stands in the first of the local words; behind all that it may need stand two memos.
use Rattle.std.specs.Prelude.{ℕ, suc, ◌+◌, ◌-◌, ◌*◌, ◌≤◌, ◌<◌, min, ◌≡◌, cond, List, ◌++◌, length, get_or, set, take, drop, replicate, ltb}
use Rattle.std.proofs.Math.Seq.{slice}
use Rattle.diagram.specs.Limits.{max_nodes}
use Rattle.diagram.specs.Diagram.{size, vars, holds, Ordered}
use Rattle.diagram.specs.Verdict.{Verdict, Outcome, accepted, said, row, room_of, output_after}
use Rattle.store.specs.Store.{Node, terminals}
use Rattle.store.specs.Room.{store_words, store_to, store_in, On}
use Rattle.pool.specs.Pool.{slot_count, Live, WellFormed, holds_from, Slot, live, slot_of, held, placed, named, gather, names as names_of, needs, table_of, slots_of}
use Rattle.reduction.specs.Reduce.{reduced}

-- ---- the layout of the local words

abbrev pub store_from : ℕ
store_from = 0

abbrev pub table_memo : ℕ
table_memo = store_words max_nodes

abbrev pub diagram_memo : ℕ
diagram_memo = table_memo + max_nodes

abbrev pub work_words : ℕ
work_words = diagram_memo + max_nodes

-- ---- building on what stands there

-- The nodes that stand in the local words.
abbrev pub built : List ℕ → ℕ → List Node
built r count = store_in store_from r count

-- The nodes o stand there, in a store of c places, and the table w can be walked on.
abbrev pub Standing : List ℕ → ℕ → List Node → List ℕ → Type 0
Standing w c o r = On w table_memo store_from c o r

-- The outcome of building the nodes `made`: how many they are, and they stand there; or one more than there are places, where they are more. The
-- words of the slots become `noted` then.
pub record Onward (w : List ℕ) (c : ℕ) (made : List Node) (noted n' r' : List ℕ) (count : ℕ) : Type 0 where
  pub is_count : count ≡ min (length made) (suc c)
  pub standing : count ≤ c → Standing w c made r'
  pub names : count ≤ c → n' ≡ noted

-- Behind the memo of the table the words are as they were.
abbrev pub Behind : List ℕ → List ℕ → Type 0
Behind r r' = (j : ℕ) → diagram_memo ≤ j → get_or r' j 0 ≡ get_or r j 0

-- Each word of the names, from one on and before another, is 0 or names a node of w.
pub record Naming (w : List ℕ) (from to : ℕ) (n : List ℕ) : Type 0 where
  pub up : from ≤ to
  pub most : to ≤ length n
  pub inside : (j : ℕ) → from ≤ j → j < to → get_or n j 0 ≤ size w

-- What building the condition of slot k, and of the slots from one on and before another, gives.
abbrev pub Slotted : (w : List ℕ) (c count k : ℕ) (n r n' r' : List ℕ) (count' : ℕ) → Type 0
Slotted w c count k n r =
    Onward w c (placed (vars w) (slot_of w (get_or n k 0)) (built r count)) (set n k (named (vars w) (slot_of w (get_or n k 0)) (built r count)))

abbrev pub Gathered : (w : List ℕ) (c count from to : ℕ) (n r n' r' : List ℕ) (count' : ℕ) → Type 0
Gathered w c count from to n r =
    Onward w c (gather (vars w) (held w (slice from to n)) (built r count))
    (take from n ++ (names_of (vars w) (held w (slice from to n)) (built r count) ++ drop to n))

-- A diagram d is built among them for slot k: its memo is empty.
pub record Adding (w : List ℕ) (c count : ℕ) (r d : List ℕ) : Type 0 where
  pub standing : Standing w c (built r count) r
  pub long : work_words ≤ length r
  pub diagram : Ordered d
  pub variables : vars d ≡ vars w
  pub clean : (p : ℕ) → p < max_nodes → get_or r (diagram_memo + p) 0 ≡ 0

abbrev pub AddedTo : (w : List ℕ) (c count k : ℕ) (n r d n' r' : List ℕ) (count' : ℕ) → Type 0
AddedTo w c count k n r d =
    Onward w c (placed (vars w) (live (holds d)) (built r count)) (set n k (named (vars w) (live (holds d)) (built r count)))

-- ---- all conditions anew

-- Everything is there to build the conditions that n names: a table that can be walked, and empty local words.
pub record Begun (w : List ℕ) (c : ℕ) (n r : List ℕ) : Type 0 where
  pub ordered : Ordered w
  pub two : 2 ≤ c
  pub few : c ≤ max_nodes
  pub long : work_words ≤ length r
  pub zero : (j : ℕ) → get_or r j 0 ≡ 0
  pub slots : length n ≡ slot_count
  pub naming : Naming w 0 slot_count n

-- The conditions cs stand in the local words, in so many nodes, and the slots' words among the names; or there are more nodes than places.
pub record Composed (w : List ℕ) (cs : List Slot) (c : ℕ) (n' r' : List ℕ) (count : ℕ) : Type 0 where
  pub is_count : count ≡ min (needs (vars w) cs) (suc c)
  pub standing : count ≤ c → Standing w c (gather (vars w) cs (terminals (vars w))) r'
  pub slots : count ≤ c → n' ≡ slots_of (vars w) cs

-- What was built is put in the place of what was there: the nodes' words, and zeros behind them.
pub record Handing (r n t s : List ℕ) (count : ℕ) : Type 0 where
  pub store : 3 * count ≤ length r
  pub fits : 3 * count ≤ length t
  pub few : count ≤ max_nodes
  pub names : length n ≡ slot_count
  pub slots : length s ≡ slot_count

pub record HandedBack (r n t t' s' : List ℕ) (count : ℕ) : Type 0 where
  pub table : t' ≡ take (3 * count) r ++ replicate (length t - 3 * count) 0
  pub slots : s' ≡ n

-- Local words that are empty.
pub record Blank (n r : List ℕ) : Type 0 where
  pub slots : length n ≡ slot_count
  pub long : length r ≡ work_words
  pub zero : (j : ℕ) → get_or r j 0 ≡ 0

-- They have taken the place of what was in table and slots; or nothing is changed.
pub record Replaced (t s : List ℕ) (cs : List Slot) (t' s' : List ℕ) (count : ℕ) : Type 0 where
  pub is_count : count ≡ min (needs (vars t) cs) (suc (size t))
  pub table : count ≤ size t → t' ≡ table_of (size t) (vars t) cs
  pub slots : count ≤ size t → s' ≡ slots_of (vars t) cs
  pub kept : size t < count → (t' ≡ t) × (s' ≡ s)

-- A diagram d may be put to slot k of a pool.
pub record Puts (t s d : List ℕ) (k : ℕ) : Type 0 where
  pub pool : WellFormed t s
  pub slot : k < slot_count
  pub diagram : Ordered d
  pub variables : vars d ≡ vars t

-- ---- reading

-- The condition of node p of an array.
abbrev pub answer_of : List ℕ → ℕ → List ℕ
answer_of t p = reduced (vars t) (holds_from t p)

-- Everything is there to build it in a room, with as many places as the table has.
pub record Making (w : List ℕ) (p n v : ℕ) (r : List ℕ) : Type 0 where
  pub ordered : Ordered w
  pub node : p < size w
  pub is_vars : v ≡ vars w
  pub two : 2 ≤ n
  pub most : size w ≤ n
  pub few : n ≤ max_nodes
  pub long : store_to n n ≤ length r

-- It has k nodes and stands in the room behind the memo.
pub record Made (w : List ℕ) (p n : ℕ) (r' : List ℕ) (k : ℕ) : Type 0 where
  pub words : length (answer_of w p) ≡ 3 * k
  pub fits : k ≤ n
  pub store : take (3 * k) (drop n r') ≡ answer_of w p

-- So many nodes' words, from a place of the room on, are copied, or the output is too short for them.
pub record Given (r out out' : List ℕ) (n k v : ℕ) (verdict : Verdict) : Type 0 where
  pub outcome : said verdict ≡ row 4 (ltb (length out) (3 * k)) 0 (accepted k v)
  pub output : out' ≡ cond (ltb (length out) (3 * k)) out (take (3 * k) (drop n r) ++ drop (3 * k) out)

-- The condition with root p may be read from a pool.
pub record Fetching (t : List ℕ) (p n v : ℕ) (r : List ℕ) : Type 0 where
  pub slots : List ℕ
  pub slot : ℕ
  pub pool : WellFormed t slots
  pub root : Live slots slot p
  pub is_size : n ≡ size t
  pub is_vars : v ≡ vars t
  pub long : length r ≡ room_of t

-- 4, or the number of the answer's nodes, and the answer; the room is zero.
abbrev pub fetch_of : List ℕ → ℕ → ℕ → Outcome
fetch_of answer v out = row 4 (ltb out (length answer)) 0 (accepted (size answer) v)

pub record Fetched (t : List ℕ) (p v : ℕ) (r r' out out' : List ℕ) (verdict : Verdict) : Type 0 where
  pub outcome : said verdict ≡ fetch_of (answer_of t p) v (length out)
  pub output : out' ≡ output_after (fetch_of (answer_of t p) v (length out)) (answer_of t p) out
  pub room : r' ≡ replicate (length r) 0
