-- The conditions that table and slots hold, slot by slot; and building conditions one after the other, clause by clause.
use Prim.Native.Nat.{ℕ, zero, suc, ◌≤◌}
use mathlib.Core.Path.{◌≡◌, refl, sym, ap, ◌∙◌}
use mathlib.Core.Bool.{Bool}
use mathlib.Core.List.{List, [], ◌∷◌, ◌++◌}
use native.Mathlib.Omega.{arith}
use lib.ListN.{length, get_or, set, take, drop}
use Rattle.store.specs.Store.{Node, canon, terminals}
use Rattle.store.specs.Build.{Sound}
use Rattle.store.proofs.Store.{Extends, extends_refl, extends_trans, extends_length}
use Rattle.store.proofs.Canon.{canon_extends}
use Rattle.store.proofs.Sound.{sound_terminals, canon_means}
use Rattle.pool.specs.Pool.{holds_from, Slot, empty, live, slot_of, held, placed, named, gather, names, needs, slots_of}

-- ---- what the slots hold

pub slot_empty : (t : List ℕ) → slot_of t 0 ≡ empty
unfolding slot_of
slot_empty t = refl

pub slot_live : (t : List ℕ) (p : ℕ) → slot_of t (suc p) ≡ live (holds_from t p)
unfolding slot_of
slot_live t p = refl

pub held_nil : (t : List ℕ) → held t [] ≡ []
unfolding held
held_nil t = refl

pub held_cons : (t : List ℕ) (x : ℕ) (s : List ℕ) → held t (x ∷ s) ≡ slot_of t x ∷ held t s
unfolding held
held_cons t x s = refl

pub held_length : (t s : List ℕ) → length (held t s) ≡ length s
unfolding held
held_length t [] = refl
held_length t (x ∷ s) = ap suc (held_length t s)

-- A slot that isn't there reads as an empty one does.
pub held_at : (t s : List ℕ) (k : ℕ) → get_or (held t s) k empty ≡ slot_of t (get_or s k 0)
unfolding held
held_at t [] k = sym (slot_empty t)
held_at t (x ∷ s) zero = refl
held_at t (x ∷ s) (suc k) = held_at t s k

pub held_set : (t s : List ℕ) (k x : ℕ) → held t (set s k x) ≡ set (held t s) k (slot_of t x)
unfolding held
held_set t [] k x = refl
held_set t (y ∷ s) zero x = refl
held_set t (y ∷ s) (suc k) x = ap (λ (cs : List Slot). slot_of t y ∷ cs) (held_set t s k x)

pub held_dropped : (t s : List ℕ) (k : ℕ) → held t (set s k 0) ≡ set (held t s) k empty
held_dropped t s k = held_set t s k 0 ∙ ap (set (held t s) k) (slot_empty t)

pub held_append : (t s s' : List ℕ) → held t (s ++ s') ≡ held t s ++ held t s'
unfolding held
held_append t [] s' = refl
held_append t (x ∷ s) s' = ap (λ (cs : List Slot). slot_of t x ∷ cs) (held_append t s s')

pub held_take : (t : List ℕ) (k : ℕ) (s : List ℕ) → held t (take k s) ≡ take k (held t s)
unfolding held
held_take t zero s = refl
held_take t (suc k) [] = refl
held_take t (suc k) (x ∷ s) = ap (λ (cs : List Slot). slot_of t x ∷ cs) (held_take t k s)

pub held_drop : (t : List ℕ) (k : ℕ) (s : List ℕ) → held t (drop k s) ≡ drop k (held t s)
unfolding held
held_drop t zero s = refl
held_drop t (suc k) [] = refl
held_drop t (suc k) (x ∷ s) = held_drop t k s

-- ---- one condition

pub placed_empty : (v : ℕ) (o : List Node) → placed v empty o ≡ o
unfolding placed
placed_empty v o = refl

pub placed_live : (v : ℕ) (f : List Bool → Bool) (o : List Node) → placed v (live f) o ≡ (canon v 0 f o).store
unfolding placed
placed_live v f o = refl

pub named_empty : (v : ℕ) (o : List Node) → named v empty o ≡ 0
unfolding named
named_empty v o = refl

pub named_live : (v : ℕ) (f : List Bool → Bool) (o : List Node) → named v (live f) o ≡ suc (canon v 0 f o).pointer
unfolding named
named_live v f o = refl

pub placed_extends : (v : ℕ) (c : Slot) (o : List Node) → Extends o (placed v c o)
unfolding placed
placed_extends v empty o = extends_refl o
placed_extends v (live f) o = canon_extends v 0 f o

pub placed_sound : (v : ℕ) (c : Slot) (o : List Node) → Sound v o → Sound v (placed v c o)
unfolding placed
placed_sound v empty o s = s
placed_sound v (live f) o s = (canon_means v v 0 f o s (omega arith)).sound

-- The slot's word after building names a node, or nothing.
pub named_inside : (v : ℕ) (c : Slot) (o : List Node) → Sound v o → named v c o ≤ length (placed v c o)
unfolding placed named
named_inside v empty o s = omega arith
named_inside v (live f) o s = (canon_means v v 0 f o s (omega arith)).place

-- ---- all, one after the other

pub gather_nil : (v : ℕ) (o : List Node) → gather v [] o ≡ o
unfolding gather
gather_nil v o = refl

pub gather_cons : (v : ℕ) (c : Slot) (cs : List Slot) (o : List Node) → gather v (c ∷ cs) o ≡ gather v cs (placed v c o)
unfolding gather
gather_cons v c cs o = refl

pub gather_append : (v : ℕ) (cs ds : List Slot) (o : List Node) → gather v (cs ++ ds) o ≡ gather v ds (gather v cs o)
unfolding gather
gather_append v [] ds o = refl
gather_append v (c ∷ cs) ds o = gather_append v cs ds (placed v c o)

pub gather_extends : (v : ℕ) (cs : List Slot) (o : List Node) → Extends o (gather v cs o)
unfolding gather
gather_extends v [] o = extends_refl o
gather_extends v (c ∷ cs) o = extends_trans (placed_extends v c o) (gather_extends v cs (placed v c o))

pub gather_grows : (v : ℕ) (cs : List Slot) (o : List Node) → length o ≤ length (gather v cs o)
gather_grows v cs o = extends_length (gather_extends v cs o)

pub gather_sound : (v : ℕ) (cs : List Slot) (o : List Node) → Sound v o → Sound v (gather v cs o)
unfolding gather
gather_sound v [] o s = s
gather_sound v (c ∷ cs) o s = gather_sound v cs (placed v c o) (placed_sound v c o s)

pub names_nil : (v : ℕ) (o : List Node) → names v [] o ≡ []
unfolding names
names_nil v o = refl

pub names_cons : (v : ℕ) (c : Slot) (cs : List Slot) (o : List Node) → names v (c ∷ cs) o ≡ named v c o ∷ names v cs (placed v c o)
unfolding names
names_cons v c cs o = refl

pub names_append : (v : ℕ) (cs ds : List Slot) (o : List Node) → names v (cs ++ ds) o ≡ names v cs o ++ names v ds (gather v cs o)
unfolding names gather
names_append v [] ds o = refl
names_append v (c ∷ cs) ds o = ap (λ (s : List ℕ). named v c o ∷ s) (names_append v cs ds (placed v c o))

pub names_length : (v : ℕ) (cs : List Slot) (o : List Node) → length (names v cs o) ≡ length cs
unfolding names
names_length v [] o = refl
names_length v (c ∷ cs) o = ap suc (names_length v cs (placed v c o))

-- ---- on the terminals

pub needs_is : (v : ℕ) (cs : List Slot) → needs v cs ≡ length (gather v cs (terminals v))
unfolding needs
needs_is v cs = refl

pub slots_are : (v : ℕ) (cs : List Slot) → slots_of v cs ≡ names v cs (terminals v)
unfolding slots_of
slots_are v cs = refl

pub slots_length : (v : ℕ) (cs : List Slot) → length (slots_of v cs) ≡ length cs
unfolding slots_of
slots_length v cs = names_length v cs (terminals v)

pub needs_two : (v : ℕ) (cs : List Slot) → 2 ≤ needs v cs
unfolding needs
needs_two v cs = gather_grows v cs (terminals v)

pub whole_sound : (v : ℕ) (cs : List Slot) → Sound v (gather v cs (terminals v))
whole_sound v cs = gather_sound v cs (terminals v) (sound_terminals v)
