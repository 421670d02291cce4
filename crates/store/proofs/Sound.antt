-- Stores that building keeps sound: terminals first, every other node over two different earlier nodes at larger variables,
-- and no node twice. In such a store the pointer that building gives stands for the function.
use Prim.Native.Nat.{ℕ, zero, suc, ◌+◌, ◌≤◌, ◌<◌}
use mathlib.Core.Path.{◌≡◌, refl, sym, ap, ◌∙◌, subst⁻¹}
use mathlib.Core.Logic.{◌≢◌}
use mathlib.Core.Bool.{Bool, true, false, cond}
use mathlib.Core.List.{List, [], ◌∷◌, ◌++◌}
use native.Mathlib.Omega.{arith}
use native.Mathlib.Decide.{dec_lt}
use lib.ListN.{length}
use Rattle.diagram.specs.Diagram.{var_of}
use Rattle.diagram.specs.Reading.{tests, pass, eval}
use Rattle.diagram.proofs.Reading.{Layered, by_two, pass_tests, pass_skips, pass_in, eval_nil, eval_cons}
use Rattle.store.specs.Store.{Node, node, words, find, Built, built, join, half, canon, terminals}
use Rattle.store.specs.Build.{at, Whole, Sound, Ready}
use Rattle.store.proofs.Store.{var_words, low_words, high_words, find_at, find_new, Extends, extends_trans, extends_add, extends_length, extends_at, extends_find, length_add, at_new}
use Rattle.store.proofs.Canon.{by_join, join_extends, canon_zero, lower, upper, canon_suc, canon_extends}

pub sound_terminals : (v : ℕ) → Sound v (terminals v)
sound_terminals v = record { zero_node = refl; one_node = refl; enough = omega arith; each = λ p two h. absurd (omega arith) }

pub terminal_at : (v : ℕ) (o : List Node) → Sound v o → (p : ℕ) → p < 2 → at o p ≡ node v p p
terminal_at v o s zero h = s.zero_node
terminal_at v o s (suc zero) h = s.one_node
terminal_at v o s (suc (suc p)) h = absurd (omega arith)

-- A node below v is no terminal.
pub not_terminal : (v : ℕ) (o : List Node) → Sound v o → (p : ℕ) → (at o p).var < v → 2 ≤ p
not_terminal v o s p h = by_two p (λ t. let e = ap (λ (n : Node). n.var) (terminal_at v o s p t) in absurd (omega arith)) (λ two. two)

-- The words of a sound store are a layered graph.
pub sound_layered : (v : ℕ) (o : List Node) → Sound v o → Layered (words o) v (length o)
sound_layered v o s = record {
  terminal = λ p t h. var_words o p ∙ ap (λ (n : Node). n.var) (terminal_at v o s p t);
  node = λ p two h.
      let a = s.each p two h in
      record {
        var = simp (var_words o) a.var;
        low = simp (low_words o) (omega arith);
        high = simp (high_words o) (omega arith);
        above_low = simp (var_words o, low_words o) a.above_low;
        above_high = simp (var_words o, high_words o) a.above_high;
      };
}

-- ---- reading a store that has grown

pass_node : (o : List Node) (i l h p : ℕ) (b : Bool) → 2 ≤ p → at o p ≡ node i l h → pass (words o) i p b ≡ cond b h l
pass_node o i l h p b two e =
    pass_tests (words o) i p b two (var_words o p ∙ ap (λ (n : Node). n.var) e) ∙ simp (low_words o p, high_words o p, e)

pass_grown : {o o' : List Node} → Extends o o' → (i p : ℕ) (b : Bool) → p < length o → pass (words o') i p b ≡ pass (words o) i p b
unfolding pass tests
pass_grown {o} {o'} x i p b h =
    simp (var_words o p, low_words o p, high_words o p, var_words o' p, low_words o' p, high_words o' p, extends_at x p h)

pub eval_grown : {o o' : List Node} (v : ℕ) → Sound v o → Extends o o' → (bs : List Bool) (i p : ℕ) → p < length o
    → eval (words o') i p bs ≡ eval (words o) i p bs
eval_grown {o} {o'} v s x [] i p h = eval_nil (words o') i p ∙ sym (eval_nil (words o) i p)
eval_grown {o} {o'} v s x (b ∷ bs) i p h =
    rw (eval_cons (words o') i p b bs, eval_cons (words o) i p b bs, pass_grown x i p b h)
    (eval_grown v s x bs (suc i) (pass (words o) i p b) (pass_in (words o) v (length o) (sound_layered v o s) i p b h))

-- ---- a new node keeps a store sound

whole_grown : {o o' : List Node} (v p : ℕ) → Extends o o' → p < length o → Whole v o p → Whole v o' p
whole_grown {o} {o'} v p x h a =
    let here : at o' p ≡ at o p = extends_at x p h in
    let under_low : at o' (at o p).low ≡ at o (at o p).low = extends_at x (at o p).low (let l = a.low in omega arith) in
    let under-high : at o' (at o p).high ≡ at o (at o p).high = extends_at x (at o p).high (let l = a.high in omega arith) in
    record {
      var = rw here a.var;
      low = rw here a.low;
      high = rw here a.high;
      above_low = rw (here, under_low) a.above_low;
      above_high = rw (here, under-high) a.above_high;
      differ = rw here a.differ;
      once = rw here (extends_find x (at o p) (let e = a.once in omega arith) ∙ a.once);
    }

module _ (v : ℕ) (o : List Node) (s : Sound v o) (i l h : ℕ) (r : Ready v o i l h) where
  whole_new : l ≢ h → find (node i l h) o ≡ length o → Whole v (o ++ (node i l h ∷ [])) (length o)
  whole_new ne new =
      let n : Node = node i l h in
      let here : at (o ++ (n ∷ [])) (length o) ≡ n = at_new o n in
      let under_low : at (o ++ (n ∷ [])) l ≡ at o l = extends_at (extends_add o n) l r.low in
      let under-high : at (o ++ (n ∷ [])) h ≡ at o h = extends_at (extends_add o n) h r.high in
      record {
        var = rw here r.var;
        low = rw here r.low;
        high = rw here r.high;
        above_low = rw (here, under_low) r.above_low;
        above_high = rw (here, under-high) r.above_high;
        differ = rw here ne;
        once = rw here (find_new n o [] new);
      }

  sound_add : l ≢ h → find (node i l h) o ≡ length o → Sound v (o ++ (node i l h ∷ []))
  sound_add ne new =
      let x : Extends o (o ++ (node i l h ∷ [])) = extends_add o (node i l h) in
      let more = length_add o (node i l h) in
      let enough = s.enough in
      record {
        zero_node = extends_at x 0 (omega arith) ∙ s.zero_node;
        one_node = extends_at x 1 (omega arith) ∙ s.one_node;
        enough = omega arith;
        each = λ p two in-o. elim (dec_lt p (length o)) [
          | yes old ↦ whole_grown v p x old (s.each p two old)
          | no fresh ↦
              let e : p ≡ length o = omega arith in
              subst⁻¹ (Whole v (o ++ (node i l h ∷ []))) e (whole_new ne new)
        ];
      }

-- Pointer p of a sound store stands over l and h at level i.
pub record Stands (v i l h : ℕ) (b : Built) : Type 0 where
  pub sound : Sound v b.store
  pub place : b.pointer < length b.store
  pub level : i ≤ (at b.store b.pointer).var
  pub low : pass (words b.store) i b.pointer false ≡ l
  pub high : pass (words b.store) i b.pointer true ≡ h

pub join_stands : (v : ℕ) (o : List Node) → Sound v o → (i l h : ℕ) → Ready v o i l h → Stands v i l h (join i l h o)
join_stands v o s i l h r = by_join (Stands v i l h) i l h o
    (λ e.
    let above : i < var_of (words o) l = rw (var_words o l) r.above_low in
    record {
      sound = s;
      place = r.low;
      level = omega arith;
      low = pass_skips (words o) i l false above;
      high = pass_skips (words o) i l true above ∙ e;
    })
    (λ ne t. at_node o (find (node i l h) o) s t (find_at (node i l h) o t))
    (λ ne new. at_node (o ++ (node i l h ∷ [])) (length o) (sound_add v o s i l h r ne new)
    (let more = length_add o (node i l h) in omega arith) (at_new o (node i l h)))
  where
    at_node : (o' : List Node) (p : ℕ) → Sound v o' → p < length o' → at o' p ≡ node i l h → Stands v i l h (built o' p)
    at_node o' p s' place e =
        let var : (at o' p).var ≡ i = ap (λ (n : Node). n.var) e in
        let two : 2 ≤ p = not_terminal v o' s' p (let below = r.var in omega arith) in
        record {
          sound = s';
          place = place;
          level = omega arith;
          low = pass_node o' i l h p false two e;
          high = pass_node o' i l h p true two e;
        }

-- ---- building

-- What building the function f of k bits gives on a sound store, at level i.
pub record Means (v k i : ℕ) (f : List Bool → Bool) (b : Built) : Type 0 where
  pub sound : Sound v b.store
  pub place : b.pointer < length b.store
  pub level : i ≤ (at b.store b.pointer).var
  pub means : (bs : List Bool) → length bs ≡ k → eval (words b.store) i b.pointer bs ≡ f bs

no_bits : (P : List Bool → Type 0) → P [] → (bs : List Bool) → length bs ≡ 0 → P bs
no_bits P p [] l = p
no_bits P p (b ∷ bs) l = absurd (omega arith)

terminal_bit : (v i : ℕ) (f : List Bool → Bool) (o : List Node) → Sound v o → i + 0 ≡ v → (t : Bool) → f [] ≡ t
    → Means v 0 i f (built o (cond t 1 0))
terminal_bit v i f o s left true e =
    let var = ap (λ (n : Node). n.var) s.one_node in
    let enough = s.enough in
    record {
      sound = s;
      place = omega arith;
      level = omega arith;
      means = no_bits (λ bs. eval (words o) i 1 bs ≡ f bs) (eval_nil (words o) i 1 ∙ sym e);
    }
terminal_bit v i f o s left false e =
    let var = ap (λ (n : Node). n.var) s.zero_node in
    let enough = s.enough in
    record {
      sound = s;
      place = omega arith;
      level = omega arith;
      means = no_bits (λ bs. eval (words o) i 0 bs ≡ f bs) (eval_nil (words o) i 0 ∙ sym e);
    }

-- Two functions that are built one after the other at levels after i are ready for a node at i.
pub halves_ready : (v k j i a b : ℕ) (f g : List Bool → Bool) (low high : Built) → i < v → i < a → i < b → Extends low.store high.store
    → Means v k a f low → Means v j b g high → Ready v high.store i low.pointer high.pointer
halves_ready v k j i a b f g low high i-in i-a i-b x l h =
    let same_low = extends_at x low.pointer l.place in
    let longer = extends_length x in
    let level : a ≤ (at high.store low.pointer).var = rw same_low l.level in
    record {
      var = i-in;
      low = let in-low = l.place in omega arith;
      high = h.place;
      above_low = omega arith;
      above_high = let up = h.level in omega arith;
    }

-- The node over two halves stands for the function.
module _ (v k i : ℕ) (f : List Bool → Bool) (low high : Built) (i-in : i < v) (x : Extends low.store high.store)
    (l : Means v k (suc i) (half false f) low) (h : Means v k (suc i) (half true f) high) where
  whole : Built
  whole = join i low.pointer high.pointer high.store

  over_halves : Stands v i low.pointer high.pointer whole
  unfolding whole
  over_halves = join_stands v high.store h.sound i low.pointer high.pointer
      (halves_ready v k k i (suc i) (suc i) (half false f) (half true f) low high i-in (omega arith) (omega arith) x l h)

  whole_means : (bs : List Bool) → length bs ≡ suc k → eval (words whole.store) i whole.pointer bs ≡ f bs
  unfolding whole
  whole_means [] e = absurd (omega arith)
  whole_means (false ∷ bs) e =
      rw (eval_cons (words whole.store) i whole.pointer false bs, over_halves.low)
      (eval_grown v l.sound (extends_trans x (join_extends i low.pointer high.pointer high.store)) bs (suc i) low.pointer l.place
      ∙ l.means bs (omega arith))
  whole_means (true ∷ bs) e =
      rw (eval_cons (words whole.store) i whole.pointer true bs, over_halves.high)
      (eval_grown v h.sound (join_extends i low.pointer high.pointer high.store) bs (suc i) high.pointer h.place
      ∙ h.means bs (omega arith))

  join_means : Means v (suc k) i f (join i low.pointer high.pointer high.store)
  unfolding whole
  join_means =
      let s = over_halves in
      record { sound = s.sound; place = s.place; level = s.level; means = whole_means }

pub canon_means : (v k i : ℕ) (f : List Bool → Bool) (o : List Node) → Sound v o → i + k ≡ v → Means v k i f (canon k i f o)
canon_means v zero i f o s left = rw (canon_zero i f o) (terminal_bit v i f o s left (f []) refl)
canon_means v (suc k) i f o s left =
    let low : Built = lower k i f o in
    let high : Built = upper k i f o in
    let l : Means v k (suc i) (half false f) low = canon_means v k (suc i) (half false f) o s (omega arith) in
    let h : Means v k (suc i) (half true f) high = canon_means v k (suc i) (half true f) low.store l.sound (omega arith) in
    rw (canon_suc k i f o) (join_means v k i f low high (omega arith) (canon_extends k (suc i) (half true f) low.store) l h)
