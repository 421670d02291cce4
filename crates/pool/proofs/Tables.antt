-- The one table of conditions is the words of a store: of the nodes that were built, and behind them of free places. So it has the size
-- that was asked for, and each slot's word names a node from which its condition holds.
use Prim.Native.Nat.{ℕ, zero, suc, ◌+◌, ◌-◌, ◌*◌, ◌≤◌, ◌<◌}
use mathlib.Core.Path.{◌≡◌, refl, sym, ap, ◌∙◌, subst}
use mathlib.Core.Bool.{Bool}
use mathlib.Core.List.{List, [], ◌∷◌, ◌++◌}
use native.Mathlib.Omega.{arith}
use lib.ListN.{length, get_or, replicate, length-append, length-replicate}
use lib.Seq.{get_or-append-add}
use Rattle.diagram.specs.Diagram.{size, vars}
use Rattle.diagram.specs.Reading.{eval}
use Rattle.diagram.proofs.Reading.{Layered, walk_eval}
use Rattle.store.specs.Store.{Node, node, words, Built, canon, terminals}
use Rattle.store.specs.Build.{at, Sound}
use Rattle.store.proofs.Store.{size_words, var_words, low_words, high_words, Extends, extends_trans, extends_at}
use Rattle.store.proofs.Sound.{sound_terminals, terminal_at, eval_grown, Means, canon_means}
use Rattle.reduction.specs.Reduce.{reduced}
use Rattle.pool.specs.Pool.{Live, holds_from, Slot, empty, live, slot_of, held, placed, named, gather, names, needs, table_of, slots_of, array_of}
use Rattle.pool.specs.Answers.{read_from}
use Rattle.pool.specs.Pools.{AllAlike, both_empty, both_live, none, more}
use Rattle.pool.proofs.Gathered.{gather_extends, whole_sound}

-- ---- words

pub words_append : (o r : List Node) → words (o ++ r) ≡ words o ++ words r
unfolding words
words_append [] r = refl
words_append (n ∷ o) r = ap (λ (s : List ℕ). n.var ∷ n.low ∷ n.high ∷ s) (words_append o r)

-- A free place.
abbrev pub free : Node
free = node 0 0 0

abbrev pub zeros : ℕ → List ℕ
zeros k = replicate k 0

words_free : (k : ℕ) → words (replicate k free) ≡ zeros (3 * k)
unfolding words
words_free zero = refl
words_free (suc k) =
    let three : 3 * suc k ≡ suc (suc (suc (3 * k))) = omega arith in
    rw three (ap (λ (s : List ℕ). 0 ∷ 0 ∷ 0 ∷ s) (words_free k))

-- ---- the table as a store

unfoldable pub table_nodes : ℕ → ℕ → List Slot → List Node
table_nodes n v cs = gather v cs (terminals v) ++ replicate (n - needs v cs) free

pub table_words : (n v : ℕ) (cs : List Slot) → table_of n v cs ≡ words (table_nodes n v cs)
unfolding table_of table_nodes
table_words n v cs =
    sym (words_append (gather v cs (terminals v)) (replicate (n - needs v cs) free)
    ∙ ap (λ (s : List ℕ). words (gather v cs (terminals v)) ++ s) (words_free (n - needs v cs)))

pub table_extends : (n v : ℕ) (cs : List Slot) → Extends (gather v cs (terminals v)) (table_nodes n v cs)
unfolding table_nodes
table_extends n v cs = record { more = replicate (n - needs v cs) free; is = refl }

pub table_length : (n v : ℕ) (cs : List Slot) → needs v cs ≤ n → length (table_nodes n v cs) ≡ n
unfolding table_nodes needs
table_length n v cs fits =
    length-append (gather v cs (terminals v)) (replicate (n - needs v cs) free)
    ∙ ap (λ (k : ℕ). needs v cs + k) (length-replicate (n - needs v cs) free)
    ∙ omega arith

pub table_size : (n v : ℕ) (cs : List Slot) → needs v cs ≤ n → size (table_of n v cs) ≡ n
table_size n v cs fits = rw (table_words n v cs) (size_words (table_nodes n v cs) ∙ table_length n v cs fits)

-- Behind the nodes there are free places, and nothing else.
all_free : (k i : ℕ) → get_or (replicate k free) i free ≡ free
all_free zero i = refl
all_free (suc k) zero = refl
all_free (suc k) (suc i) = all_free k i

pub free_behind : (n v : ℕ) (cs : List Slot) (p : ℕ) → needs v cs ≤ p → at (table_nodes n v cs) p ≡ free
unfolding table_nodes needs
free_behind n v cs p behind =
    let o : List Node = gather v cs (terminals v) in
    let place : length o + (p - length o) ≡ p = omega arith in
    subst (λ (q : ℕ). at (o ++ replicate (n - length o) free) q ≡ free) place
    (get_or-append-add o (replicate (n - length o) free) (p - length o) free ∙ all_free (n - length o) (p - length o))

-- ---- reading a store that has grown, whatever it has grown by

module _ {o g : List Node} (v : ℕ) (s : Sound v o) (x : Extends o g) where
  pub layered_grown : Layered (words g) v (length o)
  layered_grown = record {
    terminal = λ p t h. var_words g p ∙ ap (λ (n : Node). n.var) (extends_at x p h ∙ terminal_at v o s p t);
    node = λ p two h.
        let a = s.each p two h in
        let low = a.low in
        let high = a.high in
        let here = extends_at x p h in
        let Under-low = extends_at x (at o p).low (omega arith) in
        let under-high = extends_at x (at o p).high (omega arith) in
        record {
          var = rw (var_words g p, here) a.var;
          low = rw (low_words g p, here) (omega arith);
          high = rw (high_words g p, here) (omega arith);
          above_low = rw (var_words g p, low_words g p, var_words g (at g p).low, here, Under-low) a.above_low;
          above_high = rw (var_words g p, high_words g p, var_words g (at g p).high, here, under-high) a.above_high;
        };
  }

  pub vars_grown : vars (words g) ≡ v
  vars_grown = layered_grown.terminal 0 (omega arith) (let two = s.enough in omega arith)

  -- The path from a node of the store, by its levels.
  pub holds_grown : (p : ℕ) → p < length o → (bs : List Bool) → length bs ≡ v → holds_from (words g) p bs ≡ eval (words o) 0 p bs
  unfolding holds_from
  holds_grown p h bs l =
      rw vars_grown (walk_eval (words g) v (length o) layered_grown bs l v v 0 p (omega arith) h (omega arith) (omega arith))
      ∙ eval_grown v s x bs 0 p h

pub table_vars : (n v : ℕ) (cs : List Slot) → vars (table_of n v cs) ≡ v
table_vars n v cs = rw (table_words n v cs) (vars_grown v (whole_sound v cs) (table_extends n v cs))

-- ---- each slot holds its condition

holds_names : (v : ℕ) (g : List Node) (cs : List Slot) (o : List Node) → Sound v o → Extends (gather v cs o) g → AllAlike v (held (words g) (names v cs o)) cs
unfolding gather names held placed named slot_of
holds_names v g [] o s x = none
holds_names v g (empty ∷ cs) o s x = more both_empty (holds_names v g cs o s x)
holds_names v g (live f ∷ cs) o s x =
    let made : Built = canon v 0 f o in
    let means : Means v v 0 f made = canon_means v v 0 f o s (omega arith) in
    let past : Extends made.store g = extends_trans (gather_extends v cs made.store) x in
    more
    (both_live (λ bs l. holds_grown v means.sound past made.pointer means.place bs l ∙ means.means bs l))
    (holds_names v g cs made.store means.sound x)

pub table_holds : (n v : ℕ) (cs : List Slot) → AllAlike v (held (table_of n v cs) (slots_of v cs)) cs
unfolding slots_of
table_holds n v cs = rw (table_words n v cs) (holds_names v (table_nodes n v cs) cs (terminals v) (sound_terminals v) (table_extends n v cs))

-- ---- reading

pub read_is : (t s : List ℕ) (k r : ℕ) → Live s k r → read_from t s k ≡ reduced (vars t) (holds_from t r)
unfolding array_of slot_of
read_is t s k r l = ap (λ (x : ℕ). array_of (vars t) (slot_of t x)) l.names
