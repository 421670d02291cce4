-- The path of document 01 read level by level: `holds` is `eval` from the root, and the path has ended after as many steps
-- as there are variables. Stated of any layered graph, so that it serves stores of nodes too.
use Prim.Native.Nat.{ℕ, zero, suc, ◌+◌, ◌-◌, ◌≤◌, ◌<◌}
use mathlib.Core.Path.{◌≡◌, refl, ap, ◌∙◌}
use mathlib.Core.Logic.{◌⊎◌, inl, inr, ⊎_elim}
use mathlib.Core.Bool.{Bool, true, false, cond, and-false}
use mathlib.Core.List.{List, [], ◌∷◌}
use native.Mathlib.Omega.{arith}
use native.Mathlib.Decide.{ℕ_discrete, dec_lt}
use lib.ListN.{length, get_or, drop, drop_of_length-le}
use lib.Seq.{drop-cons}
use lib.Dec.{eqb}
use borrow.Author.Tests.{lt-ltb, le-ltb, le-leb, lt-leb, eq-eqb, ne_eqb}
use Rattle.diagram.specs.Diagram.{var_of, low_of, high_of, size, vars, root, step, walk, holds, Ordered, Accepted}
use Rattle.diagram.specs.Reading.{tests, pass, eval}

-- The first n nodes of w over v variables: terminals at v, other nodes below v with both children at larger variables.
pub record Layer (w : List ℕ) (v n p : ℕ) : Type 0 where
  pub var : var_of w p < v
  pub low : low_of w p < n
  pub high : high_of w p < n
  pub above_low : var_of w p < var_of w (low_of w p)
  pub above_high : var_of w p < var_of w (high_of w p)

pub record Layered (w : List ℕ) (v n : ℕ) : Type 0 where
  pub terminal : (p : ℕ) → p < 2 → p < n → var_of w p ≡ v
  pub node : (p : ℕ) → 2 ≤ p → p < n → Layer w v n p

-- p is below 2, or it is not.
pub by_two : {P : Type 0} (p : ℕ) → (p < 2 → P) → (2 ≤ p → P) → P
by_two p f g = elim (dec_lt p 2) [ yes h ↦ f h | no h ↦ g (omega arith) ]

terminal_var : (w : List ℕ) → Ordered w → (p : ℕ) → p < 2 → p < size w → var_of w p ≡ vars w
terminal_var w o zero h s = refl
terminal_var w o (suc zero) h s = (o.formed.one_terminal s).var
terminal_var w o (suc (suc p)) h s = absurd (omega arith)

pub layered : (w : List ℕ) → Ordered w → Layered w (vars w) (size w)
layered w o = record {
  terminal = terminal_var w o;
  node = λ p two in-w.
      let r = o.formed.ranges p two in-w in
      let a = o.ordered p two in-w in
      record { var = r.var; low = r.low; high = r.high; above_low = a.low; above_high = a.high };
}

pub root_in : (w : List ℕ) → Ordered w → root w < size w
root_in w o = let h = o.formed.some in omega arith

-- Every accepted array is ordered.
pub accepted_ordered : (w : List ℕ) → Accepted w → Ordered w
accepted_ordered w a = record {
  formed = a.formed;
  ordered = λ p two in-w. a.ordered p two in-w (a.reached p two in-w);
}

-- One variable passed: at a node that tests it, and at one that stands at a larger variable.
pub pass_tests : (w : List ℕ) (i p : ℕ) (b : Bool) → 2 ≤ p → var_of w p ≡ i → pass w i p b ≡ cond b (high_of w p) (low_of w p)
unfolding pass tests
pass_tests w i p b two e = simp (le-leb 2 p two, eq-eqb (var_of w p) i e)

pub pass_skips : (w : List ℕ) (i p : ℕ) (b : Bool) → i < var_of w p → pass w i p b ≡ p
unfolding pass tests
pass_skips w i p b h =
    let ne : var_of w p ≡ i → ⊥ = omega arith in
    simp (ne_eqb (var_of w p) i ne, and-false)

pub pass_ends : (w : List ℕ) (i p : ℕ) (b : Bool) → p < 2 → pass w i p b ≡ p
unfolding pass tests
pass_ends w i p b h = simp (lt-leb 2 p h)

pub eval_nil : (w : List ℕ) (i p : ℕ) → eval w i p [] ≡ eqb p 1
unfolding eval
eval_nil w i p = refl

pub eval_cons : (w : List ℕ) (i p : ℕ) (b : Bool) (bs : List Bool) → eval w i p (b ∷ bs) ≡ eval w (suc i) (pass w i p b) bs
unfolding eval
eval_cons w i p b bs = refl

pub eval_ends : (w : List ℕ) (i p : ℕ) (bs : List Bool) → p < 2 → eval w i p bs ≡ eqb p 1
eval_ends w i p [] h = eval_nil w i p
eval_ends w i p (b ∷ bs) h = rw (eval_cons w i p b bs, pass_ends w i p b h) (eval_ends w (suc i) p bs h)

eval_drop : (w : List ℕ) (bs : List Bool) (i p : ℕ) → i < length bs
    → eval w i p (drop i bs) ≡ eval w (suc i) (pass w i p (get_or bs i false)) (drop (suc i) bs)
eval_drop w bs i p h = rw (drop-cons bs i false h) (eval_cons w i p (get_or bs i false) (drop (suc i) bs))

step_ends : (w : List ℕ) (bs : List Bool) (p : ℕ) → p < 2 → step w bs p ≡ p
unfolding step
step_ends w bs p h = simp (lt-ltb p 2 h)

step_goes : (w : List ℕ) (bs : List Bool) (p : ℕ) → 2 ≤ p → step w bs p ≡ cond (get_or bs (var_of w p) false) (high_of w p) (low_of w p)
unfolding step
step_goes w bs p h = simp (le-ltb p 2 h)

walk_ends : (w : List ℕ) (bs : List Bool) (k p : ℕ) → p < 2 → walk w bs k p ≡ p
unfolding walk
walk_ends w bs zero p h = refl
walk_ends w bs (suc k) p h = ap (walk w bs k) (step_ends w bs p h) ∙ walk_ends w bs k p h

-- A child of a layered graph's node: in the graph, at a larger variable.
pub child_in_lem : (w : List ℕ) (v n p : ℕ) → Layer w v n p → (b : Bool) → cond b (high_of w p) (low_of w p) < n
child_in_lem w v n p a true = a.high
child_in_lem w v n p a false = a.low

pub child_above : (w : List ℕ) (v n p : ℕ) → Layer w v n p → (b : Bool) → var_of w p < var_of w (cond b (high_of w p) (low_of w p))
child_above w v n p a true = a.above_high
child_above w v n p a false = a.above_low

-- A node passes a variable to a child or not at all.
pub by_pass : (P : ℕ → Type 0) (w : List ℕ) (i p : ℕ) (b : Bool) → (2 ≤ p → var_of w p ≡ i → P (cond b (high_of w p) (low_of w p))) → P p
    → P (pass w i p b)
unfolding pass tests
by_pass P w i p b child stays = by_two p
    (λ t. rw (pass_ends w i p b t) stays)
    (λ two. elim (ℕ_discrete (var_of w p) i) [
      | yes e ↦ rw (pass_tests w i p b two e) (child two e)
      | no ne ↦ simp (ne_eqb (var_of w p) i ne, and-false) stays
    ])

module _ (w : List ℕ) (v n : ℕ) (g : Layered w v n) where
  pub pass_in : (i p : ℕ) (b : Bool) → p < n → pass w i p b < n
  pass_in i p b h = by_pass (λ q. q < n) w i p b (λ two e. child_in_lem w v n p (g.node p two h) b) h

  -- A node at v is a terminal; no node is beyond v.
  pub at_end : (p : ℕ) → p < n → v ≤ var_of w p → p < 2
  at_end p h e = by_two p (λ t. t) (λ two. let a = g.node p two h in absurd (omega arith))

  pub var_most : (p : ℕ) → p < n → var_of w p ≤ v
  var_most p h = by_two p (λ t. let e = g.terminal p t h in omega arith) (λ two. let a = g.node p two h in omega arith)

  -- At a level before v the node tests that variable or stands at a larger one.
  pub at_level : (i p : ℕ) → p < n → i ≤ var_of w p → i < v → ((2 ≤ p) × (var_of w p ≡ i)) ⊎ (i < var_of w p)
  at_level i p h l m = elim (ℕ_discrete (var_of w p) i) [
    | yes e ↦ inl (by_two p (λ t. let c = g.terminal p t h in absurd (omega arith)) (λ two. two), e)
    | no ne ↦ inr (omega arith)
  ]

  -- The path ends: each step goes to a larger variable.
  walk_end : (bs : List Bool) (k p : ℕ) → p < n → v ≤ var_of w p + k → walk w bs k p < 2
  unfolding walk
  walk_end bs zero p h e = at_end p h (omega arith)
  walk_end bs (suc k) p h e = by_two p
      (λ t. rw (walk_ends w bs (suc k) p t) t)
      (λ two.
      let a = g.node p two h in
      let b : Bool = get_or bs (var_of w p) false in
      let up = child_above w v n p a b in
      rw (step_goes w bs p two) (walk_end bs k (cond b (high_of w p) (low_of w p)) (child_in_lem w v n p a b) (omega arith)))

  -- Fuel k is enough at p, and j levels are left from i on.
  pub walk_eval : (bs : List Bool) → length bs ≡ v → (j k i p : ℕ) → i + j ≡ v → p < n → i ≤ var_of w p → v ≤ var_of w p + k
      → eqb (walk w bs k p) 1 ≡ eval w i p (drop i bs)
  unfolding walk
  walk_eval bs l zero k i p left h below fuel =
      let none : drop i bs ≡ [] = drop_of_length-le bs {i = i} (omega arith) in
      rw (none, walk_ends w bs k p (at_end p h (omega arith)), eval_nil w i p) refl
  walk_eval bs l (suc j) zero i p left h below fuel =
      rw (eval_drop w bs i p (omega arith)) (⊎_elim
      (λ t. absurd (omega arith))
      (λ s. rw (pass_skips w i p (get_or bs i false) s) (walk_eval bs l j zero (suc i) p (omega arith) h s fuel))
      (at_level i p h below (omega arith)))
  walk_eval bs l (suc j) (suc k) i p left h below fuel =
      rw (eval_drop w bs i p (omega arith)) (⊎_elim
      (λ t.
      let a = g.node p t.0 h in
      let b : Bool = get_or bs i false in
      let up = child_above w v n p a b in
      let same : get_or bs (var_of w p) false ≡ b = ap (λ (x : ℕ). get_or bs x false) t.1 in
      rw (pass_tests w i p b t.0 t.1, step_goes w bs p t.0, same)
      (walk_eval bs l j k (suc i) (cond b (high_of w p) (low_of w p)) (omega arith) (child_in_lem w v n p a b) (omega arith) (omega arith)))
      (λ s. rw (pass_skips w i p (get_or bs i false) s) (walk_eval bs l j (suc k) (suc i) p (omega arith) h s fuel))
      (at_level i p h below (omega arith)))

-- The path has ended at a terminal after as many steps as there are variables.
pub path_ends : (w : List ℕ) → Ordered w → (bs : List Bool) → walk w bs (vars w) (root w) < 2
path_ends w o bs = walk_end w (vars w) (size w) (layered w o) bs (vars w) (root w) (root_in w o) (omega arith)

-- The path from any node, read from any level at or before it.
pub holds_from_lem : (w : List ℕ) → Ordered w → (bs : List Bool) → length bs ≡ vars w → (i p : ℕ) → p < size w → i ≤ var_of w p
    → eqb (walk w bs (vars w) p) 1 ≡ eval w i p (drop i bs)
holds_from_lem w o bs l i p h below =
    let most = var_most w (vars w) (size w) (layered w o) p h in
    walk_eval w (vars w) (size w) (layered w o) bs l (vars w - i) (vars w) i p (omega arith) h below (omega arith)

pub holds_is_eval : (w : List ℕ) → Ordered w → (bs : List Bool) → length bs ≡ vars w → holds w bs ≡ eval w 0 (root w) bs
unfolding holds
holds_is_eval w o bs l = holds_from_lem w o bs l 0 (root w) (root_in w o) (omega arith)
