-- What is promised of reduction, proved.
use Prim.Native.Nat.{ℕ, suc, ◌+◌, ◌≤◌, ◌<◌}
use mathlib.Core.Path.{◌≡◌, refl, sym, ap, ◌∙◌, subst}
use mathlib.Core.Logic.{◌≢◌, ◌⊎◌, inl, inr, ⊎_elim}
use mathlib.Core.Bool.{Bool, true, false}
use mathlib.Core.List.{List, [], ◌∷◌}
use native.Mathlib.Omega.{arith}
use native.Mathlib.Decide.{ℕ_discrete, dec_lt}
use lib.ListN.{length, take}
use lib.Seq.{take_all, take-suc}
use Rattle.diagram.specs.Limits.{max_nodes, max_variables}
use Rattle.diagram.specs.Diagram.{var_of, low_of, high_of, size, vars, root, holds, start, Terminal, Above, Formed, Ordered, Accepted}
use Rattle.diagram.specs.Reading.{eval}
use Rattle.diagram.proofs.Reading.{layered, by_two, eval_ends, holds_is_eval, accepted_ordered, root_in}
use Rattle.store.specs.Store.{Node, node, words, find, Built, canon, terminals}
use Rattle.reduction.specs.Reduce.{reduced, reduce}
use Rattle.reduction.specs.Demand3.{Agree, Always, Numbering, Demand3}
use Rattle.store.specs.Build.{at, Sound, own}
use Rattle.store.proofs.Store.{node_path, length_words, size_words, var_words, low_words, high_words, extends_refl}
use Rattle.store.proofs.Canon.{Same, canon_cong, canon_constant}
use Rattle.store.proofs.Sound.{sound_terminals, terminal_at, sound_layered, Means, canon_means}
use Rattle.reduction.proofs.Reached.{canon_last, canon_reach}
use Rattle.reduction.proofs.Numbering.{canon_numbers}
use Rattle.store.proofs.Graph.{own_terminal}
use Rattle.reduction.proofs.Rooted.{reduce_own}
use Rattle.reduction.proofs.Count.{count}
use Rattle.reduction.proofs.Only.{reduce_only}
use Rattle.reduction.proofs.Fewest.{Closed, own_fits, store_fits}

-- ---- a sound store whose last node is the root and reaches all is an accepted diagram

module _ (v : ℕ) (o : List Node) (s : Sound v o) where
  pub vars_words : vars (words o) ≡ v
  vars_words = var_words o 0 ∙ ap (λ (n : Node). n.var) s.zero_node

  pub terminal_words_lem : (p : ℕ) → p < 2 → Terminal (words o) p
  terminal_words_lem p h =
      let e = terminal_at v o s p h in
      record {
        var = var_words o p ∙ ap (λ (n : Node). n.var) e ∙ sym vars_words;
        low = low_words o p ∙ ap (λ (n : Node). n.low) e;
        high = high_words o p ∙ ap (λ (n : Node). n.high) e;
      }

  formed_words : length o ≤ max_nodes → v ≤ max_variables → Formed (words o)
  formed_words few variables =
      let e = length_words o in
      let n = size_words o in
      let vs = vars_words in
      let enough = s.enough in
      record {
        whole = omega arith;
        some = omega arith;
        few = omega arith;
        zero_terminal = terminal_words_lem 0 (omega arith);
        one_terminal = λ h. terminal_words_lem 1 (omega arith);
        variables = omega arith;
        ranges = λ p two h.
            let a = (sound_layered v o s).node p two (omega arith) in
            record { var = rw vs a.var; low = rw n a.low; high = rw n a.high };
      }

  above_words : (p : ℕ) → 2 ≤ p → p < size (words o) → Above (words o) p
  above_words p two h =
      let n = size_words o in
      let a = (sound_layered v o s).node p two (omega arith) in
      record { low = a.above_low; high = a.above_high }

-- No two nodes of a sound store are equal.
pub sound_once : (v : ℕ) (o : List Node) → Sound v o → (p q : ℕ) → p < length o → q < length o → at o p ≡ at o q → p ≡ q
sound_once v o s p q in_p in-q e =
    let var = ap (λ (n : Node). n.var) e in
    let low = ap (λ (n : Node). n.low) e in
    by_two p
    (λ p-ends. by_two q
    (λ q-ends.
    let at_p = ap (λ (n : Node). n.low) (terminal_at v o s p p-ends) in
    let at-q = ap (λ (n : Node). n.low) (terminal_at v o s q q-ends) in
    omega arith)
    (λ q-two.
    let at_p = ap (λ (n : Node). n.var) (terminal_at v o s p p-ends) in
    let at-q = (s.each q q-two in-q).var in
    absurd (omega arith)))
    (λ p_two. by_two q
    (λ q-ends.
    let at-q = ap (λ (n : Node). n.var) (terminal_at v o s q q-ends) in
    let at_p = (s.each p p_two in_p).var in
    absurd (omega arith))
    (λ q-two. sym (s.each p p_two in_p).once ∙ ap (λ (n : Node). find n o) e ∙ (s.each q q-two in-q).once))

-- ---- false, one node alone

abbrev lone : ℕ → List ℕ
lone v = words (node v 0 0 ∷ [])

lone_size : (v : ℕ) → size (lone v) ≡ 1
lone_size v = size_words (node v 0 0 ∷ [])

lone_vars : (v : ℕ) → vars (lone v) ≡ v
lone_vars v = var_words (node v 0 0 ∷ []) 0

lone_accepted : (v : ℕ) → v ≤ max_variables → Accepted (lone v)
lone_accepted v h =
    let e = length_words (node v 0 0 ∷ []) in
    let n = lone_size v in
    let vs = lone_vars v in
    record {
      formed = record {
        whole = omega arith;
        some = omega arith;
        few = omega arith;
        zero_terminal = record {
          var = refl;
          low = low_words (node v 0 0 ∷ []) 0;
          high = high_words (node v 0 0 ∷ []) 0;
        };
        one_terminal = λ b. absurd (omega arith);
        variables = omega arith;
        ranges = λ p two b. absurd (omega arith);
      };
      ordered = λ p two b. absurd (omega arith);
      reached = λ p two b. absurd (omega arith);
    }

-- ---- the reduced diagram of any function

module _ (v : ℕ) (f : List Bool → Bool) where
  abbrev made : Built
  made = canon v 0 f (terminals v)

  made_means : Means v v 0 f made
  made_means = canon_means v v 0 f (terminals v) (sound_terminals v) (omega arith)

  -- The root is the last node, but for false.
  made_root : (made.pointer ≡ 0) ⊎ (suc made.pointer ≡ length made.store)
  made_root =
      let m = made_means.place in
      let enough = made_means.sound.enough in
      elim (dec_lt 2 (length made.store)) [
        | yes grown ↦ inr (canon_last v v 0 f (terminals v) (sound_terminals v) (omega arith) grown)
        | no bare ↦ elim (ℕ_discrete made.pointer 0) [ yes e ↦ inl e | no ne ↦ inr (omega arith) ]
      ]

  reduced_false : made.pointer ≡ 0 → reduced v f ≡ lone v
  unfolding reduced
  reduced_false e =
      let enough = made_means.sound.enough in
      let one : take 1 made.store ≡ node v 0 0 ∷ [] =
      take-suc made.store 0 (node 0 0 0) (omega arith) ∙ ap (λ (n : Node). n ∷ []) made_means.sound.zero_node in
      rw e (ap words one)

  reduced_whole : suc made.pointer ≡ length made.store → reduced v f ≡ words made.store
  unfolding reduced
  reduced_whole e = ap words (take_all (suc made.pointer) made.store (omega arith))

  by_reduced : (P : List ℕ → Type 0) → (made.pointer ≡ 0 → P (lone v)) → (suc made.pointer ≡ length made.store → P (words made.store))
      → P (reduced v f)
  by_reduced P none some = ⊎_elim (λ e. rw (reduced_false e) (none e)) (λ e. rw (reduced_whole e) (some e)) made_root

  pub reduced_size : size (reduced v f) ≡ suc made.pointer
  reduced_size = by_reduced (λ r. size r ≡ suc made.pointer)
      (λ e. lone_size v ∙ ap suc (sym e)) (λ e. size_words made.store ∙ sym e)

  pub reduced_vars : vars (reduced v f) ≡ v
  reduced_vars = by_reduced (λ r. vars r ≡ v) (λ e. lone_vars v) (λ e. vars_words v made.store made_means.sound)

  pub reduced_lean : (p : ℕ) → 2 ≤ p → p < size (reduced v f) → low_of (reduced v f) p ≢ high_of (reduced v f) p
  reduced_lean p two = by_reduced (λ r. p < size r → low_of r p ≢ high_of r p)
      (λ e h. let n = lone_size v in absurd (omega arith))
      (λ e h.
      let n = size_words made.store in
      rw (low_words made.store p, high_words made.store p) (made_means.sound.each p two (omega arith)).differ)

  pub reduced_distinct : (p q : ℕ) → p < size (reduced v f) → q < size (reduced v f) → var_of (reduced v f) p ≡ var_of (reduced v f) q
      → low_of (reduced v f) p ≡ low_of (reduced v f) q → high_of (reduced v f) p ≡ high_of (reduced v f) q → p ≡ q
  reduced_distinct p q = by_reduced
      (λ r. p < size r → q < size r → var_of r p ≡ var_of r q → low_of r p ≡ low_of r q → high_of r p ≡ high_of r q → p ≡ q)
      (λ e in_p in-q i l h. let n = lone_size v in omega arith)
      (λ e in_p in-q i l h.
      let o : List Node = made.store in
      let n = size_words o in
      sound_once v o made_means.sound p q (omega arith) (omega arith)
      (node_path (at o p) (at o q) (simp (var_words o) at i) (simp (low_words o) at l) (simp (high_words o) at h)))

  pub reduced_after : (p : ℕ) → 2 ≤ p → p < size (reduced v f) → (low_of (reduced v f) p < p) × (high_of (reduced v f) p < p)
  reduced_after p two = by_reduced (λ r. p < size r → (low_of r p < p) × (high_of r p < p))
      (λ e h. let n = lone_size v in absurd (omega arith))
      (λ e h.
      let n = size_words made.store in
      let each = made_means.sound.each p two (omega arith) in
      rw (low_words made.store p, high_words made.store p) (each.low, each.high))

  pub reduced_numbered : 2 ≤ size (reduced v f) → Numbering (reduced v f) 2 (root (reduced v f)) (size (reduced v f))
  reduced_numbered = by_reduced (λ r. 2 ≤ size r → Numbering r 2 (root r) (size r))
      (λ e h. let n = lone_size v in absurd (omega arith))
      (λ e h.
      let n = size_words made.store in
      let last : made.pointer ≡ root (words made.store) = omega arith in
      rw (← last, n) (canon_numbers v v 0 f (terminals v) (sound_terminals v) (omega arith) made.store (extends_refl made.store)))

  pub reduced_accepted : v ≤ max_variables → size (reduced v f) ≤ max_nodes → Accepted (reduced v f)
  reduced_accepted variables = by_reduced (λ r. size r ≤ max_nodes → Accepted r)
      (λ e few. lone_accepted v variables)
      (λ e few.
      let s = made_means.sound in
      let n = size_words made.store in
      let last : root (words made.store) ≡ made.pointer = omega arith in
      record {
        formed = formed_words v made.store s (omega arith) variables;
        ordered = λ p two h r. above_words v made.store s p two h;
        reached = λ p two h. rw last (canon_reach v v 0 f (terminals v) (sound_terminals v) (omega arith) made.store (extends_refl made.store)
            made.pointer start p two (omega arith));
      })

  pub reduced_holds : v ≤ max_variables → size (reduced v f) ≤ max_nodes → Same v (holds (reduced v f)) f
  reduced_holds variables few bs l =
      let a = accepted_ordered (reduced v f) (reduced_accepted variables few) in
      holds_is_eval (reduced v f) a bs (l ∙ sym reduced_vars) ∙ ap (λ (p : ℕ). eval (reduced v f) 0 p bs) last ∙ reads
    where
      last : root (reduced v f) ≡ made.pointer
      last = let n = reduced_size in omega arith

      reads : eval (reduced v f) 0 made.pointer bs ≡ f bs
      reads = by_reduced (λ r. eval r 0 made.pointer bs ≡ f bs)
          (λ e. eval_ends (lone v) 0 made.pointer bs (omega arith) ∙ sym (eval_ends (words made.store) 0 made.pointer bs (omega arith)) ∙ made_means.means bs l)
          (λ e. made_means.means bs l)

-- False has one node, true two.
pub reduced_never : (v : ℕ) (f : List Bool → Bool) → Same v f (λ bs. false) → reduced v f ≡ words (node v 0 0 ∷ [])
reduced_never v f s = reduced_false v f (ap (λ (b : Built). b.pointer) (canon_constant false v 0 f (terminals v) s))

pub reduced_always : (v : ℕ) (f : List Bool → Bool) → Same v f (λ bs. true) → reduced v f ≡ words (terminals v)
unfolding reduced
reduced_always v f s = rw (canon_constant true v 0 f (terminals v) s) refl

-- ---- the reduced diagram of a diagram

-- It depends on the variables and on what the array holds for, and on nothing else.
pub reduce_same : (a b : List ℕ) → vars a ≡ vars b → Agree (vars a) a b → reduce a ≡ reduce b
unfolding reduce reduced
reduce_same a b e s =
    rw (canon_cong (vars a) 0 (holds a) (holds b) s (terminals (vars a)))
    (ap (λ (v : ℕ). reduced v (holds b)) e)

module _ (w : List ℕ) (o : Ordered w) where
  reduce_pointer : size (reduce w) ≡ suc (own w (vars w) (root w) (terminals (vars w))).pointer
  unfolding reduce
  reduce_pointer = reduced_size (vars w) (holds w) ∙ ap (λ (b : Built). suc b.pointer) (reduce_own w o)

  reduce_in : size (reduce w) ≤ length (own w (vars w) (root w) (terminals (vars w))).store
  reduce_in =
      let place = subst (λ (b : Built). b.pointer < length b.store) (reduce_own w o) (made_means (vars w) (holds w)).place in
      let n = reduce_pointer in
      omega arith

  -- It has no more nodes than the array.
  pub reduce_size : size (reduce w) ≤ size w
  reduce_size =
      let n = reduce_pointer in
      let most = reduce_in in
      let fits = store_fits w o in
      let h = root_in w o in
      elim (dec_lt 1 (size w)) [
        | yes many ↦ omega arith
        | no one ↦
            let e = ap (λ (b : Built). b.pointer) (own_terminal w (vars w) (size w) (layered w o) (root w) (omega arith) h (terminals (vars w))) in
            omega arith
      ]

  -- Nor more than the nodes among which a walk from the root stays, beside two terminals.
  pub reduce_size_live : (live : ℕ → Bool) → Closed w (size w) live → (2 ≤ root w → live (root w) ≡ true) → size (reduce w) ≤ 2 + count (size w) live
  reduce_size_live live closed l =
      let most = reduce_in in
      let fits = own_fits w (vars w) (size w) (layered w o) live closed (root w) (root_in w o) l in
      omega arith

  reduce_few : size (reduced (vars w) (holds w)) ≤ max_nodes
  unfolding reduce
  reduce_few = let n = reduce_size in let few = o.formed.few in omega arith

  pub reduce_vars : vars (reduce w) ≡ vars w
  unfolding reduce
  reduce_vars = reduced_vars (vars w) (holds w)

  pub reduce_accepted : Accepted (reduce w)
  unfolding reduce
  reduce_accepted = reduced_accepted (vars w) (holds w) o.formed.variables reduce_few

  pub reduce_holds : Agree (vars w) (reduce w) w
  unfolding reduce
  reduce_holds = reduced_holds (vars w) (holds w) o.formed.variables reduce_few

  pub reduce_again : reduce (reduce w) ≡ reduce w
  reduce_again = reduce_same (reduce w) w reduce_vars (subst (λ (v : ℕ). Agree v (reduce w) w) (sym reduce_vars) reduce_holds)

  pub reduce_lean : (p : ℕ) → 2 ≤ p → p < size (reduce w) → low_of (reduce w) p ≢ high_of (reduce w) p
  unfolding reduce
  reduce_lean = reduced_lean (vars w) (holds w)

  pub reduce_distinct : (p q : ℕ) → p < size (reduce w) → q < size (reduce w) → var_of (reduce w) p ≡ var_of (reduce w) q
      → low_of (reduce w) p ≡ low_of (reduce w) q → high_of (reduce w) p ≡ high_of (reduce w) q → p ≡ q
  unfolding reduce
  reduce_distinct = reduced_distinct (vars w) (holds w)

  pub reduce_after : (p : ℕ) → 2 ≤ p → p < size (reduce w) → (low_of (reduce w) p < p) × (high_of (reduce w) p < p)
  unfolding reduce
  reduce_after = reduced_after (vars w) (holds w)

  pub reduce_numbered : 2 ≤ size (reduce w) → Numbering (reduce w) 2 (root (reduce w)) (size (reduce w))
  unfolding reduce
  reduce_numbered = reduced_numbered (vars w) (holds w)

reduce_never : (w : List ℕ) → Always false w → reduce w ≡ vars w ∷ 0 ∷ 0 ∷ []
unfolding reduce words
reduce_never w s = reduced_never (vars w) (holds w) s

reduce_always : (w : List ℕ) → Always true w → reduce w ≡ vars w ∷ 0 ∷ 0 ∷ vars w ∷ 1 ∷ 1 ∷ []
unfolding reduce words
reduce_always w s = reduced_always (vars w) (holds w) s

-- Equal words hold for the same valuations.
reduce_tells : (a b : List ℕ) → Ordered a → Ordered b → vars a ≡ vars b → reduce a ≡ reduce b → Agree (vars a) a b
reduce_tells a b oa ob e r bs l =
    sym (reduce_holds a oa bs l) ∙ ap (λ (w : List ℕ). holds w bs) r ∙ reduce_holds b ob bs (l ∙ e)

-- No array that stands for the same function has fewer nodes: it reduces to the same words.
pub reduce_fewest : (w a : List ℕ) → Ordered w → Ordered a → vars a ≡ vars w → Agree (vars w) a w → size (reduce w) ≤ size a
reduce_fewest w a o oa e s =
    let one : reduce a ≡ reduce w = reduce_same a w e (λ bs l. s bs (l ∙ e)) in
    subst (λ (r : List ℕ). size r ≤ size a) one (reduce_size a oa)

pub demand3 : Demand3
demand3 = record {
  variables = reduce_vars;
  function = reduce_holds;
  canonical = λ a b oa ob e. (reduce_tells a b oa ob e, reduce_same a b e);
  again = reduce_again;
  accepted = reduce_accepted;
  lean = reduce_lean;
  distinct = reduce_distinct;
  fewest = reduce_fewest;
  numbered = reduce_numbered;
  after_children = reduce_after;
  only = reduce_only;
  false_one = reduce_never;
  true_two = reduce_always;
}
