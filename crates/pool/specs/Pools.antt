-- What is promised of a pool, in document 02's words (`pools` of proofs/Promised.antt).
use Rattle.std.specs.Prelude.{ℕ, ◌≤◌, ◌<◌, ◌≡◌, ◌↔◌, Bool, true, List, [], ◌∷◌, length, get_or, set}
use Rattle.diagram.specs.Limits.{max_nodes, max_variables}
use Rattle.diagram.specs.Diagram.{size, vars, holds, Accepted, Ordered}
use Rattle.diagram.specs.Verdict.{accepted, refused, room_of}
use Rattle.reduction.specs.Reduce.{reduced}
use Rattle.pool.specs.Pool.{slot_count, Live, WellFormed, is_pool, holds_from, Slot, empty, live, held, needs, table_of, slots_of}
use Rattle.pool.specs.Answers.{with_added, with_dropped, add_of, drop_of, read_of, read_from}

-- Two slots hold the same: both are empty, or both hold for the same valuations of v variables.
pub data Alike (v : ℕ) : Slot → Slot → Type 0 where
  both_empty : Alike v empty empty
  both_live : {f g : List Bool → Bool} → ((bs : List Bool) → length bs ≡ v → f bs ≡ g bs) → Alike v (live f) (live g)

-- Slot by slot.
pub data AllAlike (v : ℕ) : List Slot → List Slot → Type 0 where
  none : AllAlike v [] []
  more : {c d : Slot} {cs ds : List Slot} → Alike v c d → AllAlike v cs ds → AllAlike v (c ∷ cs) (d ∷ ds)

-- Nodes of an ordered array w, one for each condition that is live.
pub data Roots (w : List ℕ) : List Slot → Type 0 where
  none : Roots w []
  skip : {cs : List Slot} → Roots w cs → Roots w (empty ∷ cs)
  root : {f : List Bool → Bool} {cs : List Slot} (p : ℕ) → p < size w → ((bs : List Bool) → length bs ≡ vars w → holds_from w p bs ≡ f bs) → Roots w cs
      → Roots w (live f ∷ cs)

-- There is a pool, the diagram is accepted with its room, the slot is empty and the variable counts are equal: an addition is refused for
-- room or not at all.
pub record Addable (t s w : List ℕ) (room k : ℕ) : Type 0 where
  pub pool : WellFormed t s
  pub diagram : Accepted w
  pub fits : room_of w ≤ room
  pub slot : k < slot_count
  pub free : get_or s k 0 ≡ 0
  pub variables : vars w ≡ vars t

pub record Pools : Type 0 where
  -- 46 exactly where table and slots are no well-formed pool, whatever else is asked
  pub test : (t s : List ℕ) → (is_pool t s ≡ true) ↔ WellFormed t s
  pub forty_six_add : (t s w : List ℕ) (room k place : ℕ) → (add_of t s w room k ≡ refused 46 place) ↔ ((¬ WellFormed t s) × (place ≡ 0))
  pub forty_six_drop : (t s : List ℕ) (k place : ℕ) → (drop_of t s k ≡ refused 46 place) ↔ ((¬ WellFormed t s) × (place ≡ 0))
  pub forty_six_read : (t s : List ℕ) (k room out place : ℕ) → (read_of t s k room out ≡ refused 46 place) ↔ ((¬ WellFormed t s) × (place ≡ 0))
  -- 36 exactly where the distinct nodes of all live conditions and of the new one are more than the table has places; else it is added
  pub thirty_six : (t s w : List ℕ) (room k place : ℕ)
      → (add_of t s w room k ≡ refused 36 place) ↔ (Addable t s w room k × (size t < needs (vars t) (with_added t s w k)) × (place ≡ 0))
  pub added : (t s w : List ℕ) (room k n v : ℕ)
      → (add_of t s w room k ≡ accepted n v)
      ↔ (Addable t s w room k × (needs (vars t) (with_added t s w k) ≤ size t) × (n ≡ needs (vars t) (with_added t s w k)) × (v ≡ vars t))
  -- a live slot can always be dropped
  pub dropped : (t s : List ℕ) (k r : ℕ) → WellFormed t s → Live s k r → drop_of t s k ≡ accepted (needs (vars t) (with_dropped t s k)) (vars t)
  -- the table of any conditions that it has places for is a well-formed pool, and holds them; so all of its nodes are reached from a live
  -- slot, and no two are equal
  pub closed : (n v : ℕ) (cs : List Slot) → length cs ≡ slot_count → n ≤ max_nodes → v ≤ max_variables → needs v cs ≤ n
      → WellFormed (table_of n v cs) (slots_of v cs)
  pub size_kept : (n v : ℕ) (cs : List Slot) → needs v cs ≤ n → size (table_of n v cs) ≡ n
  pub vars_kept : (n v : ℕ) (cs : List Slot) → vars (table_of n v cs) ≡ v
  pub holds_them : (n v : ℕ) (cs : List Slot) → needs v cs ≤ n → AllAlike v (held (table_of n v cs) (slots_of v cs)) cs
  -- no ordered array that has a node for each live condition has fewer nodes: what these have in common is there once. So dropping never
  -- needs more places than there are
  pub fewest : (w : List ℕ) (cs : List Slot) → Ordered w → 2 ≤ size w → Roots w cs → needs (vars w) cs ≤ size w
  pub drop_fits : (t s : List ℕ) (k : ℕ) → WellFormed t s → needs (vars t) (with_dropped t s k) ≤ size t
  pub held_fits : (t s : List ℕ) → WellFormed t s → needs (vars t) (held t s) ≤ size t
  -- what a drop frees is used again: an addition after it needs the distinct nodes of what is then live and of the new condition
  pub freed : (t s w : List ℕ) (k j : ℕ) → WellFormed t s
      → needs (vars t) (with_added (table_of (size t) (vars t) (with_dropped t s k)) (slots_of (vars t) (with_dropped t s k)) w j)
      ≡ needs (vars t) (set (with_dropped t s k) j (live (holds w)))
  -- the table goes by what the conditions hold for, and by nothing else
  pub alike_needs : (v : ℕ) (cs ds : List Slot) → AllAlike v cs ds → needs v cs ≡ needs v ds
  pub alike_tables : (n v : ℕ) (cs ds : List Slot) → AllAlike v cs ds → (table_of n v cs ≡ table_of n v ds) × (slots_of v cs ≡ slots_of v ds)
  -- reading a live slot gives the reduced array of its condition
  pub reads : (t s : List ℕ) (k r : ℕ) → Live s k r → read_from t s k ≡ reduced (vars t) (holds_from t r)
