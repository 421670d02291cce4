-- What adding, dropping and reading answer and leave, for any words (document 02, E6). Each begins with refusal 46.
use Rattle.std.specs.Prelude.{ℕ, ◌≡◌, cond, not, List, length, get_or, set, leb, ltb, eqb}
use Rattle.diagram.specs.Diagram.{size, vars, holds}
use Rattle.diagram.specs.Verdict.{Verdict, Outcome, accepted, said, row, and_then, if_accepted, room_of, cleared, verdict_of, room_after, output_after}
use Rattle.diagram.specs.declared.verdict.Output.TheVariants.{Nothing}
use Rattle.pool.specs.Pool.{slot_count, is_pool, Slot, empty, live, slot_of, held, needs, table_of, slots_of, array_of}

-- ---- what is asked for

-- The conditions after an addition to slot k, and after that slot is dropped.
abbrev pub with_added : List ℕ → List ℕ → List ℕ → ℕ → List Slot
with_added t s w k = set (held t s) k (live (holds w))

abbrev pub with_dropped : List ℕ → List ℕ → ℕ → List Slot
with_dropped t s k = set (held t s) k empty

-- What slot k holds, as it is read.
abbrev pub read_from : List ℕ → List ℕ → ℕ → List ℕ
read_from t s k = array_of (vars t) (slot_of t (get_or s k 0))

-- ---- the verdicts

-- 33 to 36, where there is a pool and the diagram is accepted. Accepted, it has the number of the nodes in use afterwards.
unfoldable pub place_of : (t s w : List ℕ) (k : ℕ) → Outcome
place_of t s w k =
    row 33 (leb slot_count k) 0
    (row 34 (not (eqb (get_or s k 0) 0)) 0
    (row 35 (not (eqb (vars w) (vars t))) 0
    (row 36 (ltb (size t) (needs (vars t) (with_added t s w k))) 0
    (accepted (needs (vars t) (with_added t s w k)) (vars t)))))

-- 46, then the diagram's own, then these.
unfoldable pub add_of : (t s w : List ℕ) (room k : ℕ) → Outcome
add_of t s w room k = row 46 (not (is_pool t s)) 0 (and_then (verdict_of w Nothing room) (place_of t s w k))

-- 46, 33 and 34: the slot is there and live.
unfoldable pub live_of : (t s : List ℕ) (k n : ℕ) → Outcome
live_of t s k n =
    row 46 (not (is_pool t s)) 0
    (row 33 (leb slot_count k) 0
    (row 34 (eqb (get_or s k 0) 0) 0
    (accepted n (vars t))))

-- Accepted, it has the number of the nodes in use afterwards.
unfoldable pub drop_of : (t s : List ℕ) (k : ℕ) → Outcome
drop_of t s k = live_of t s k (needs (vars t) (with_dropped t s k))

-- Then 5, with the table's places for m, and then 4. Accepted, it has the number of the answer's nodes.
unfoldable pub roomed_of : (t s : List ℕ) (k room : ℕ) → Outcome
roomed_of t s k room = and_then (live_of t s k (size t)) (row 5 (ltb room (room_of t)) 0 (accepted (size t) (vars t)))

unfoldable pub read_of : (t s : List ℕ) (k room out : ℕ) → Outcome
read_of t s k room out =
    and_then (roomed_of t s k room)
    (row 4 (ltb out (length (read_from t s k))) 0
    (accepted (size (read_from t s k)) (vars t)))

-- ---- the contracts: every word that is left, for any words

-- A refused addition or drop changes no word of table and slots. An addition leaves the room as the diagram's check does, and as it was after 46.
pub record Adds (t s w : List ℕ) (k : ℕ) (t' s' room room' : List ℕ) (r : Verdict) : Type 0 where
  pub verdict : said r ≡ add_of t s w (length room) k
  pub table : t' ≡ if_accepted (add_of t s w (length room) k) (table_of (size t) (vars t) (with_added t s w k)) t
  pub slots : s' ≡ if_accepted (add_of t s w (length room) k) (slots_of (vars t) (with_added t s w k)) s
  pub left : room' ≡ cond (is_pool t s) (room_after w Nothing room) room

pub record Drops (t s : List ℕ) (k : ℕ) (t' s' : List ℕ) (r : Verdict) : Type 0 where
  pub verdict : said r ≡ drop_of t s k
  pub table : t' ≡ if_accepted (drop_of t s k) (table_of (size t) (vars t) (with_dropped t s k)) t
  pub slots : s' ≡ if_accepted (drop_of t s k) (slots_of (vars t) (with_dropped t s k)) s

-- Reading is not given table and slots to change. 5 and what comes before it leave the room as it was; 4, and all answers, leave its first
-- words zero.
pub record Reads (t s : List ℕ) (k : ℕ) (room room' out out' : List ℕ) (r : Verdict) : Type 0 where
  pub verdict : said r ≡ read_of t s k (length room) (length out)
  pub left : room' ≡ if_accepted (roomed_of t s k (length room)) (cleared t room) room
  pub output : out' ≡ output_after (read_of t s k (length room) (length out)) (read_from t s k) out
