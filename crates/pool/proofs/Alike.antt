-- The one table of conditions goes by what these hold for, and by nothing else.
use Prim.Native.Nat.{ℕ, zero, suc}
use mathlib.Core.Path.{◌≡◌, refl, ap, ◌∙◌}
use mathlib.Core.Bool.{Bool, true, false}
use mathlib.Core.List.{List}
use lib.ListN.{length, get_or, set}
use Rattle.diagram.proofs.Tests.{not_both}
use Rattle.store.specs.Store.{Node, Built, terminals}
use Rattle.store.proofs.Canon.{canon_cong}
use Rattle.reduction.specs.Reduce.{reduced}
use Rattle.pool.specs.Pool.{Slot, empty, live, slot_of, placed, named, gather, names, needs, table_of, slots_of, array_of}
use Rattle.pool.specs.Pools.{Alike, both_empty, both_live, AllAlike, none, more}

-- ---- slots that hold the same

pub alike_refl : {v : ℕ} (c : Slot) → Alike v c c
alike_refl empty = both_empty
alike_refl (live f) = both_live (λ bs l. refl)

pub alike_trans : {v : ℕ} {c d e : Slot} → Alike v c d → Alike v d e → Alike v c e
alike_trans both_empty both_empty = both_empty
alike_trans (both_live same) (both_live same') = both_live (λ bs l. same bs l ∙ same' bs l)

pub all_at : {v : ℕ} {cs ds : List Slot} → AllAlike v cs ds → (k : ℕ) → Alike v (get_or cs k empty) (get_or ds k empty)
all_at none k = both_empty
all_at (more a rest) zero = a
all_at (more a rest) (suc k) = all_at rest k

pub all_set : {v : ℕ} {cs ds : List Slot} {c d : Slot} → AllAlike v cs ds → (k : ℕ) → Alike v c d → AllAlike v (set cs k c) (set ds k d)
all_set none k b = none
all_set (more a rest) zero b = more b rest
all_set (more a rest) (suc k) b = more a (all_set rest k b)

-- ---- what is built of them is the same

pub alike_placed : (v : ℕ) {c d : Slot} → Alike v c d → (o : List Node) → placed v c o ≡ placed v d o
unfolding placed
alike_placed v both_empty o = refl
alike_placed v (both_live {f = f} {g = g} same) o = ap (λ (b : Built). b.store) (canon_cong v 0 f g same o)

pub alike_named : (v : ℕ) {c d : Slot} → Alike v c d → (o : List Node) → named v c o ≡ named v d o
unfolding named
alike_named v both_empty o = refl
alike_named v (both_live {f = f} {g = g} same) o = ap (λ (b : Built). suc b.pointer) (canon_cong v 0 f g same o)

pub alike_array : (v : ℕ) {c d : Slot} → Alike v c d → array_of v c ≡ array_of v d
unfolding array_of reduced
alike_array v both_empty = refl
alike_array v (both_live {f = f} {g = g} same) = rw (canon_cong v 0 f g same (terminals v)) refl

pub alike_gather : (v : ℕ) {cs ds : List Slot} → AllAlike v cs ds → (o : List Node) → gather v cs o ≡ gather v ds o
unfolding gather
alike_gather v none o = refl
alike_gather v (more {d = d} {cs = cs} a rest) o = ap (gather v cs) (alike_placed v a o) ∙ alike_gather v rest (placed v d o)

pub alike_names : (v : ℕ) {cs ds : List Slot} → AllAlike v cs ds → (o : List Node) → names v cs o ≡ names v ds o
unfolding names
alike_names v none o = refl
alike_names v (more {d = d} {cs = cs} a rest) o = rw (alike_named v a o, alike_placed v a o, alike_names v rest (placed v d o)) refl

pub alike_need : (v : ℕ) (cs ds : List Slot) → AllAlike v cs ds → needs v cs ≡ needs v ds
unfolding needs
alike_need v cs ds a = ap length (alike_gather v a (terminals v))

pub alike_table : (n v : ℕ) (cs ds : List Slot) → AllAlike v cs ds → (table_of n v cs ≡ table_of n v ds) × (slots_of v cs ≡ slots_of v ds)
unfolding table_of slots_of needs
alike_table n v cs ds a = (rw (alike_gather v a (terminals v)) refl, alike_names v a (terminals v))

-- ---- an empty slot is like an empty one only

is_empty : Slot → Bool
is_empty empty = true
is_empty (live f) = false

alike_kind : {v : ℕ} {c d : Slot} → Alike v c d → is_empty c ≡ is_empty d
unfolding is_empty
alike_kind both_empty = refl
alike_kind (both_live same) = refl

pub alike_empty : {v : ℕ} (t : List ℕ) (x : ℕ) → Alike v (slot_of t x) empty → x ≡ 0
unfolding slot_of is_empty
alike_empty t zero a = refl
alike_empty t (suc p) a = absurd (not_both false (alike_kind a) refl)
