-- The table of any conditions that it has places for is a well-formed pool: the nodes that were built are those of a sound store, each
-- reached from the slot for which it was made, and all behind them is free.
use Prim.Native.Nat.{ℕ, zero, suc, ◌*◌, ◌≤◌, ◌<◌}
use mathlib.Core.Path.{◌≡◌, refl, sym, ap, ◌∙◌, subst}
use mathlib.Core.Logic.{◌⊎◌, inl, inr, ◌≢◌}
use mathlib.Core.List.{List, [], ◌∷◌}
use native.Mathlib.Omega.{arith}
use native.Mathlib.Decide.{dec_lt}
use lib.ListN.{length, get_or, get_or-eq_default}
use Rattle.diagram.specs.Limits.{max_nodes, max_variables}
use Rattle.diagram.specs.Diagram.{var_of, low_of, high_of, size, vars, Reach, start, Terminal, InRange, Above}
use Rattle.diagram.proofs.Reading.{by_two}
use Rattle.store.specs.Store.{Node, node, words, canon, terminals}
use Rattle.store.specs.Build.{at, Sound}
use Rattle.store.proofs.Store.{node_path, length_words, size_words, var_words, low_words, high_words, Extends, extends_trans, extends_at}
use Rattle.store.proofs.Sound.{sound_terminals, terminal_at}
use Rattle.reduction.proofs.Reached.{canon_reach}
use Rattle.reduction.proofs.Canonical.{sound_once}
use Rattle.pool.specs.Pool.{slot_count, Inner, Live, WellFormed, Slot, empty, live, placed, named, gather, names, needs, table_of, slots_of}
use Rattle.pool.proofs.Gathered.{named_inside, placed_sound, gather_extends, gather_grows, slots_length, needs_is, whole_sound}
use Rattle.pool.proofs.Tables.{table_nodes, table_words, table_extends, table_length, free_behind, layered_grown, vars_grown}

-- ---- the slots' words

-- Each names a node that was built.
names_inside : (v : ℕ) (cs : List Slot) (o : List Node) → Sound v o → (k r : ℕ) → get_or (names v cs o) k 0 ≡ suc r → r < length (gather v cs o)
unfolding names gather
names_inside v [] o s k r e = absurd (omega arith)
names_inside v (c ∷ cs) o s zero r e =
    let here = named_inside v c o s in
    let later = gather_grows v cs (placed v c o) in
    omega arith
names_inside v (c ∷ cs) o s (suc k) r e = names_inside v cs (placed v c o) (placed_sound v c o s) k r e

-- Each node that was built is reached from one of them.
pub record Named (g : List Node) (s : List ℕ) (p : ℕ) : Type 0 where
  pub slot : ℕ
  pub place : ℕ
  pub names : get_or s slot 0 ≡ suc place
  pub reaches : Reach (words g) place p

placed_reach : (v : ℕ) (c : Slot) (o g : List Node) → Sound v o → Extends (placed v c o) g → (p : ℕ) → length o ≤ p → p < length (placed v c o)
    → (s : List ℕ) → Named g (named v c o ∷ s) p
unfolding placed named
placed_reach v empty o g sound x p from to s = absurd (omega arith)
placed_reach v (live f) o g sound x p from to s = record {
  slot = 0;
  place = (canon v 0 f o).pointer;
  names = refl;
  reaches = canon_reach v v 0 f o sound (omega arith) g x (canon v 0 f o).pointer start p from to;
}

gather_reach : (v : ℕ) (g : List Node) (cs : List Slot) (o : List Node) → Sound v o → Extends (gather v cs o) g → (p : ℕ) → length o ≤ p
    → p < length (gather v cs o) → Named g (names v cs o) p
unfolding names gather
gather_reach v g [] o s x p from to = absurd (omega arith)
gather_reach v g (c ∷ cs) o s x p from to = elim (dec_lt p (length (placed v c o))) [
  | yes here ↦ placed_reach v c o g s (extends_trans (gather_extends v cs (placed v c o)) x) p from here (names v cs (placed v c o))
  | no later ↦
      let rest : Named g (names v cs (placed v c o)) p = gather_reach v g cs (placed v c o) (placed_sound v c o s) x p (omega arith) to in
      record { slot = suc rest.slot; place = rest.place; names = rest.names; reaches = rest.reaches }
]

-- ---- the table

module _ (n v : ℕ) (cs : List Slot) (count : length cs ≡ slot_count) (few : n ≤ max_nodes) (variables : v ≤ max_variables) (fits : needs v cs ≤ n) where
  made : List Node
  made = gather v cs (terminals v)

  all : List Node
  all = table_nodes n v cs

  made_length : length made ≡ needs v cs
  unfolding made
  made_length = sym (needs_is v cs)

  sound : Sound v made
  unfolding made
  sound = whole_sound v cs

  grown : Extends made all
  unfolding made all
  grown = table_extends n v cs

  all_size : size (words all) ≡ n
  unfolding all
  all_size = size_words (table_nodes n v cs) ∙ table_length n v cs fits

  all_vars : vars (words all) ≡ v
  all_vars = vars_grown v sound grown

  -- a node of the store
  inner_made : (p : ℕ) → Inner (words all) p → p < length made
  unfolding all
  inner_made p i = elim (dec_lt p (length made)) [
    | yes h ↦ h
    | no h ↦
        let l = made_length in
        let e = free_behind n v cs p (omega arith) in
        absurd (i.used (record {
          var = var_words (table_nodes n v cs) p ∙ ap (λ (m : Node). m.var) e;
          low = low_words (table_nodes n v cs) p ∙ ap (λ (m : Node). m.low) e;
          high = high_words (table_nodes n v cs) p ∙ ap (λ (m : Node). m.high) e;
        }))
  ]

  same_node : (p : ℕ) → p < length made → (var_of (words all) p ≡ (at made p).var) × (low_of (words all) p ≡ (at made p).low) × (high_of (words all) p ≡ (at made p).high)
  same_node p h =
      let e = extends_at grown p h in (
        var_words all p ∙ ap (λ (m : Node). m.var) e,
        low_words all p ∙ ap (λ (m : Node). m.low) e,
        high_words all p ∙ ap (λ (m : Node). m.high) e,
      )

  made_inner : (p : ℕ) → 2 ≤ p → p < length made → Inner (words all) p
  made_inner p two h =
      let w = same_node p h in
      let l = made_length in
      let size_is = all_size in
      record {
        after = two;
        inside = omega arith;
        used = λ e. (sound.each p two h).differ (sym w.1 ∙ e.low ∙ sym e.high ∙ w.2);
      }

  all_terminal : (p : ℕ) → p < 2 → Terminal (words all) p
  all_terminal p h =
      let two = sound.enough in
      let w = same_node p (omega arith) in
      let e = terminal_at v made sound p h in
      record {
        var = w.0 ∙ ap (λ (m : Node). m.var) e ∙ sym all_vars;
        low = w.1 ∙ ap (λ (m : Node). m.low) e;
        high = w.2 ∙ ap (λ (m : Node). m.high) e;
      }

  all_ranges : (p : ℕ) → Inner (words all) p → InRange (words all) p
  all_ranges p i =
      let a = (layered_grown v sound grown).node p i.after (inner_made p i) in
      let l = made_length in
      let s = all_size in
      let vs = all_vars in
      record {
        var = let h = a.var in omega arith;
        low = let h = a.low in omega arith;
        high = let h = a.high in omega arith;
      }

  all_above : (p : ℕ) → Inner (words all) p → Above (words all) p
  all_above p i =
      let a = (layered_grown v sound grown).node p i.after (inner_made p i) in
      record { low = a.above_low; high = a.above_high }

  all_lean : (p : ℕ) → Inner (words all) p → low_of (words all) p ≢ high_of (words all) p
  all_lean p i e =
      let h = inner_made p i in
      let w = same_node p h in
      (sound.each p i.after h).differ (sym w.1 ∙ e ∙ w.2)

  all_distinct : (p q : ℕ) → Inner (words all) p → Inner (words all) q → var_of (words all) p ≡ var_of (words all) q
      → low_of (words all) p ≡ low_of (words all) q → high_of (words all) p ≡ high_of (words all) q → p ≡ q
  all_distinct p q i j a b c =
      let at_p = same_node p (inner_made p i) in
      let at-q = same_node q (inner_made q j) in
      sound_once v made sound p q (inner_made p i) (inner_made q j)
      (node_path (at made p) (at made q) (sym at_p.0 ∙ a ∙ at-q.0) (sym at_p.1 ∙ b ∙ at-q.1) (sym at_p.2 ∙ c ∙ at-q.2))

  all_named : (k r : ℕ) → Live (slots_of v cs) k r → (r < 2) ⊎ Inner (words all) r
  unfolding slots_of made
  all_named k r l = by_two r inl (λ two. inr (made_inner r two (names_inside v cs (terminals v) (sound_terminals v) k r l.names)))

  slot_inside : (k r : ℕ) → get_or (slots_of v cs) k 0 ≡ suc r → k < slot_count
  slot_inside k r e = elim (dec_lt k slot_count) [
    | yes h ↦ h
    | no h ↦
        let l = slots_length v cs in
        let z = get_or-eq_default (slots_of v cs) 0 {n = k} (omega arith) in
        absurd (omega arith)
  ]

  all_reached : (p : ℕ) → Inner (words all) p → (k : ℕ) × (r : ℕ) × Live (slots_of v cs) k r × Reach (words all) r p
  unfolding slots_of made all
  all_reached p i =
      let found = gather_reach v (table_nodes n v cs) cs (terminals v) (sound_terminals v) (table_extends n v cs) p i.after (inner_made p i) in (
        found.slot,
        found.place,
        record { inside = slot_inside found.slot found.place found.names; names = found.names },
        found.reaches,
      )

  all_formed : WellFormed (words all) (slots_of v cs)
  all_formed =
      let s = all_size in
      let l = made_length in
      let two = sound.enough in
      let vs = all_vars in
      record {
        whole = length_words all ∙ ap (λ (k : ℕ). 3 * k) (sym (size_words all));
        two = omega arith;
        few = omega arith;
        slots = slots_length v cs ∙ count;
        zero_terminal = all_terminal 0 (omega arith);
        one_terminal = all_terminal 1 (omega arith);
        variables = omega arith;
        named = all_named;
        ranges = all_ranges;
        ordered = all_above;
        lean = all_lean;
        distinct = all_distinct;
        reached = all_reached;
      }

  pub table_formed : WellFormed (table_of n v cs) (slots_of v cs)
  unfolding all
  table_formed = subst (λ (t : List ℕ). WellFormed t (slots_of v cs)) (sym (table_words n v cs)) all_formed
