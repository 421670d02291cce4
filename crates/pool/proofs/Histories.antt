-- Any list of calls that begins with the empty pool: by induction on the calls, table and slots stay a well-formed pool, and each slot
-- holds what was last put there.
use Prim.Native.Nat.{ℕ, zero, suc, ◌≤◌, ◌<◌}
use mathlib.Core.Path.{◌≡◌, refl, sym, ap, ◌∙◌, subst}
use mathlib.Core.Bool.{Bool, cond}
use mathlib.Core.List.{List, [], ◌∷◌}
use native.Mathlib.Omega.{arith}
use lib.ListN.{length, get_or, set, replicate, length-set, length-replicate, get_or-replicate}
use lib.Seq.{get_or-set_same, get_or-set_other}
use lib.Dec.{eqb}
use borrow.Author.Tests.{eq-eqb, ne_eqb}
use Rattle.diagram.specs.Limits.{max_nodes, max_variables}
use Rattle.diagram.specs.Diagram.{size, vars, holds}
use Rattle.diagram.specs.Verdict.{Outcome, accepted, refused, if_accepted}
use Rattle.diagram.proofs.Tests.{by-eq}
use Rattle.store.specs.Store.{Node, words, terminals}
use Rattle.reduction.specs.Reduce.{reduced}
use Rattle.pool.specs.Pool.{slot_count, WellFormed, Slot, empty, live, slot_of, held, placed, named, gather, names, needs, table_of, slots_of, array_of}
use Rattle.pool.specs.Answers.{add_of, drop_of, read_from}
use Rattle.pool.specs.Pools.{Alike}
use Rattle.pool.specs.History.{Lent, lent, empty_pool, Call, add, drop, read, after, put, run, last_put, History}
use Rattle.pool.proofs.Gathered.{held_length, held_at}
use Rattle.pool.proofs.Fewest.{dropped_fit}
use Rattle.pool.proofs.Alike.{alike_refl, alike_trans, all_at, alike_array, alike_empty}
use Rattle.pool.proofs.Tables.{table_size, table_vars, table_holds}
use Rattle.pool.proofs.Closed.{table_formed}
use Rattle.pool.proofs.Rows.{added_fits}

-- A pool of n places over v variables in which each slot holds what is said.
record Agrees (n v : ℕ) (p : Lent) (says : ℕ → Slot) : Type 0 where
  formed : WellFormed p.table p.slots
  places : size p.table ≡ n
  variables : vars p.table ≡ v
  alike : (k : ℕ) → k < slot_count → Alike v (slot_of p.table (get_or p.slots k 0)) (says k)

-- The pool of a list of conditions.
unfoldable pool_of : ℕ → ℕ → List Slot → Lent
pool_of n v cs = lent (table_of n v cs) (slots_of v cs)

agrees_of : (n v : ℕ) (cs : List Slot) → length cs ≡ slot_count → n ≤ max_nodes → v ≤ max_variables → needs v cs ≤ n → (says : ℕ → Slot)
    → ((k : ℕ) → k < slot_count → Alike v (get_or cs k empty) (says k)) → Agrees n v (pool_of n v cs) says
unfolding pool_of
agrees_of n v cs count few variables fits says alike = record {
  formed = table_formed n v cs count few variables fits;
  places = table_size n v cs fits;
  variables = table_vars n v cs;
  alike = λ k h.
      alike_trans
      (subst (λ (c : Slot). Alike v c (get_or cs k empty)) (held_at (table_of n v cs) (slots_of v cs) k) (all_at (table_holds n v cs) k))
      (alike k h);
}

-- ---- the empty pool

abbrev empties : ℕ → List Slot
empties k = replicate k empty

gather_empties : (v k : ℕ) (o : List Node) → gather v (empties k) o ≡ o
unfolding gather placed
gather_empties v zero o = refl
gather_empties v (suc k) o = gather_empties v k o

names_empties : (v k : ℕ) (o : List Node) → names v (empties k) o ≡ replicate k 0
unfolding names named placed
names_empties v zero o = refl
names_empties v (suc k) o = ap (λ (s : List ℕ). 0 ∷ s) (names_empties v k o)

empty_needs : (v : ℕ) → needs v (empties slot_count) ≡ 2
unfolding needs
empty_needs v = ap length (gather_empties v slot_count (terminals v))

empty_is : (n v : ℕ) → empty_pool n v ≡ pool_of n v (empties slot_count)
unfolding empty_pool pool_of table_of slots_of words
empty_is n v = rw (empty_needs v, gather_empties v slot_count (terminals v), names_empties v slot_count (terminals v)) refl

empty_agrees : (n v : ℕ) → 2 ≤ n → n ≤ max_nodes → v ≤ max_variables → Agrees n v (empty_pool n v) (λ k. empty)
empty_agrees n v two few variables =
    rw (empty_is n v) (agrees_of n v (empties slot_count) (length-replicate slot_count empty) few variables (let e = empty_needs v in omega arith) (λ k. empty)
    (λ k h. subst (λ (c : Slot). Alike v c empty) (sym (get_or-replicate slot_count k empty empty h)) (alike_refl empty)))

-- ---- one call

module _ (n v : ℕ) (p : Lent) (says : ℕ → Slot) (a : Agrees n v p says) where
  abbrev was : List Slot
  was = held p.table p.slots

  -- A slot is put to, and the others hold what they held.
  agrees_set : (j : ℕ) (c : Slot) → needs (vars p.table) (set was j c) ≤ size p.table
      → Agrees n v (pool_of (size p.table) (vars p.table) (set was j c)) (λ k. cond (eqb j k) c (says k))
  agrees_set j c fits =
      rw (a.places, a.variables)
      (agrees_of n v (set was j c) (length-set was j c ∙ count) few variables fits' (λ k. cond (eqb j k) c (says k)) each)
    where
      count : length was ≡ slot_count
      count = held_length p.table p.slots ∙ a.formed.slots

      few : n ≤ max_nodes
      few = let e = a.places in let m = a.formed.few in omega arith

      variables : v ≤ max_variables
      variables = let e = a.variables in let m = a.formed.variables in omega arith

      fits' : needs v (set was j c) ≤ n
      fits' = rw (a.places, a.variables) at fits

      each : (k : ℕ) → k < slot_count → Alike v (get_or (set was j c) k empty) (cond (eqb j k) c (says k))
      each k h = by-eq j k
          (λ here. rw (eq-eqb j k here, ← here, get_or-set_same was j c empty (let l = count in omega arith)) (alike_refl c))
          (λ other. rw (ne_eqb j k other, get_or-set_other was j k c empty (λ e. other (sym e)), held_at p.table p.slots k) (a.alike k h))

  -- A refusal leaves what was said, of this slot and of the others.
  said_before : (j k : ℕ) → cond (eqb j k) (says k) (says k) ≡ says k
  said_before j k = by-eq j k (λ here. rw (eq-eqb j k here) refl) (λ other. rw (ne_eqb j k other) refl)

  agrees_put : (o : Outcome) (j : ℕ) (c : Slot) → ((m u : ℕ) → o ≡ accepted m u → needs (vars p.table) (set was j c) ≤ size p.table)
      → Agrees n v (if_accepted o (pool_of (size p.table) (vars p.table) (set was j c)) p) (λ k. cond (eqb j k) (if_accepted o c (says k)) (says k))
  agrees_put (accepted m u) j c fits = agrees_set j c (fits m u refl)
  agrees_put (refused number place) j c fits = record {
    formed = a.formed;
    places = a.places;
    variables = a.variables;
    alike = λ k h. subst (Alike v (slot_of p.table (get_or p.slots k 0))) (sym (said_before j k)) (a.alike k h);
  }

  agrees_after : (c : Call) → Agrees n v (after c p) (λ k. put c p k (says k))
  unfolding after put pool_of
  agrees_after (add w room j) =
      agrees_put (add_of p.table p.slots w room j) j (live (holds w)) (λ m u e. added_fits p.table p.slots w room j e)
  agrees_after (drop j) = agrees_put (drop_of p.table p.slots j) j empty (λ m u e. dropped_fit p.table p.slots a.formed j)
  agrees_after (read j room out) = a

-- ---- any calls

agrees_run : (n v : ℕ) (calls : List Call) (p : Lent) (says : ℕ → Slot) → Agrees n v p says
    → Agrees n v (run calls p) (λ k. last_put calls p k (says k))
unfolding run last_put
agrees_run n v [] p says a = a
agrees_run n v (c ∷ calls) p says a = agrees_run n v calls (after c p) (λ k. put c p k (says k)) (agrees_after n v p says a c)

module _ (n v : ℕ) (two : 2 ≤ n) (few : n ≤ max_nodes) (variables : v ≤ max_variables) (calls : List Call) where
  agrees : Agrees n v (run calls (empty_pool n v)) (λ k. last_put calls (empty_pool n v) k empty)
  agrees = agrees_run n v calls (empty_pool n v) (λ k. empty) (empty_agrees n v two few variables)

  slot_reads : (k : ℕ) → k < slot_count → (f : List Bool → Bool) → last_put calls (empty_pool n v) k empty ≡ live f
      → read_from (run calls (empty_pool n v)).table (run calls (empty_pool n v)).slots k ≡ reduced v f
  unfolding array_of
  slot_reads k h f e =
      let t : List ℕ = (run calls (empty_pool n v)).table in
      let s : List ℕ = (run calls (empty_pool n v)).slots in
      let like : Alike v (slot_of t (get_or s k 0)) (live f) = subst (Alike v (slot_of t (get_or s k 0))) e (agrees.alike k h) in
      ap (λ (u : ℕ). array_of u (slot_of t (get_or s k 0))) agrees.variables ∙ alike_array v like

  slot_empties : (k : ℕ) → k < slot_count → last_put calls (empty_pool n v) k empty ≡ empty → get_or (run calls (empty_pool n v)).slots k 0 ≡ 0
  slot_empties k h e =
      let t : List ℕ = (run calls (empty_pool n v)).table in
      let x : ℕ = get_or (run calls (empty_pool n v)).slots k 0 in
      alike_empty t x (subst (Alike v (slot_of t x)) e (agrees.alike k h))

pub history : History
history = record {
  stays = λ n v two few variables calls. (agrees n v two few variables calls).formed;
  size_stays = λ n v two few variables calls. (agrees n v two few variables calls).places;
  vars_stay = λ n v two few variables calls. (agrees n v two few variables calls).variables;
  reads = slot_reads;
  empties = slot_empties;
}
