-- What is promised of any list of calls that begins with the empty pool (`history` of proofs/Histories.antt): each live slot reads as the
-- condition last put there.
use Rattle.std.specs.Prelude.{ℕ, ◌-◌, ◌*◌, ◌≤◌, ◌<◌, ◌≡◌, Bool, cond, List, [], ◌∷◌, get_or, replicate, eqb}
use Rattle.diagram.specs.Limits.{max_nodes, max_variables}
use Rattle.diagram.specs.Diagram.{size, vars, holds}
use Rattle.diagram.specs.Verdict.{if_accepted}
use Rattle.reduction.specs.Reduce.{reduced}
use Rattle.pool.specs.Pool.{slot_count, WellFormed, Slot, empty, live, table_of, slots_of}
use Rattle.pool.specs.Answers.{with_added, with_dropped, add_of, drop_of, read_from}

-- Table and slots, as they are lent from one call to the next.
pub record Lent : Type 0 where
  pub table : List ℕ
  pub slots : List ℕ

abbrev pub lent : List ℕ → List ℕ → Lent
lent t s = record { table = t; slots = s }

-- The empty pool of n places over v variables: the two terminals and zeros.
unfoldable pub empty_pool : ℕ → ℕ → Lent
empty_pool n v = lent (v ∷ 0 ∷ 0 ∷ v ∷ 1 ∷ 1 ∷ replicate (3 * (n - 2)) 0) (replicate slot_count 0)

-- A call: a diagram's words are added to a slot, with a room of so many words; a slot is dropped; a slot is read.
pub data Call : Type 0 where
  add : (w : List ℕ) (room slot : ℕ) → Call
  drop : (slot : ℕ) → Call
  read : (slot room out : ℕ) → Call

-- Table and slots after a call, as the contracts `Adds` and `Drops` say; reading leaves them.
unfoldable pub after : Call → Lent → Lent
after (add w room k) p =
    if_accepted (add_of p.table p.slots w room k)
    (lent (table_of (size p.table) (vars p.table) (with_added p.table p.slots w k)) (slots_of (vars p.table) (with_added p.table p.slots w k)))
    p
after (drop k) p =
    if_accepted (drop_of p.table p.slots k)
    (lent (table_of (size p.table) (vars p.table) (with_dropped p.table p.slots k)) (slots_of (vars p.table) (with_dropped p.table p.slots k)))
    p
after (read k room out) p = p

-- What was last put to slot k, where `before` was there before the call: by the call and by whether it was answered or refused.
unfoldable pub put : Call → Lent → ℕ → Slot → Slot
put (add w room j) p k before = cond (eqb j k) (if_accepted (add_of p.table p.slots w room j) (live (holds w)) before) before
put (drop j) p k before = cond (eqb j k) (if_accepted (drop_of p.table p.slots j) empty before) before
put (read j room out) p k before = before

-- The calls one after the other.
unfoldable pub run : List Call → Lent → Lent
run [] p = p
run (c ∷ cs) p = run cs (after c p)

unfoldable pub last_put : List Call → Lent → ℕ → Slot → Slot
last_put [] p k before = before
last_put (c ∷ cs) p k before = last_put cs (after c p) k (put c p k before)

pub record History : Type 0 where
  -- the empty pool is a well-formed pool, and so is what any calls leave of it
  pub stays : (n v : ℕ) → 2 ≤ n → n ≤ max_nodes → v ≤ max_variables → (calls : List Call)
      → WellFormed (run calls (empty_pool n v)).table (run calls (empty_pool n v)).slots
  pub size_stays : (n v : ℕ) → 2 ≤ n → n ≤ max_nodes → v ≤ max_variables → (calls : List Call) → size (run calls (empty_pool n v)).table ≡ n
  pub vars_stay : (n v : ℕ) → 2 ≤ n → n ≤ max_nodes → v ≤ max_variables → (calls : List Call) → vars (run calls (empty_pool n v)).table ≡ v
  -- each live slot reads as the condition last put there
  pub reads : (n v : ℕ) → 2 ≤ n → n ≤ max_nodes → v ≤ max_variables → (calls : List Call) (k : ℕ) → k < slot_count → (f : List Bool → Bool)
      → last_put calls (empty_pool n v) k empty ≡ live f
      → read_from (run calls (empty_pool n v)).table (run calls (empty_pool n v)).slots k ≡ reduced v f
  -- and a slot is empty where nothing was put, or what was put last has been dropped
  pub empties : (n v : ℕ) → 2 ≤ n → n ≤ max_nodes → v ≤ max_variables → (calls : List Call) (k : ℕ) → k < slot_count
      → last_put calls (empty_pool n v) k empty ≡ empty → get_or (run calls (empty_pool n v)).slots k 0 ≡ 0
