-- Building the function that a node of a diagram stands for: the recursion that a walk over the diagram follows, with direct
-- jumps over skipped variables, and what its memo may rest on.
use Prim.Native.Nat.{ℕ, zero, suc, ◌+◌, ◌-◌, ◌≤◌, ◌<◌}
use mathlib.Core.Path.{◌≡◌, refl, ap, ◌∙◌}
use mathlib.Core.Bool.{Bool, true, false, cond}
use mathlib.Core.List.{List, ◌∷◌}
use native.Mathlib.Omega.{arith}
use lib.ListN.{length}
use lib.Dec.{eqb}
use Rattle.diagram.specs.Diagram.{var_of, low_of, high_of}
use Rattle.diagram.specs.Reading.{eval}
use Rattle.diagram.proofs.Reading.{Layered, child_in_lem, child_above, var_most, pass_tests, pass_skips, eval_nil, eval_cons}
use Rattle.store.specs.Store.{Node, Built, built, join, half, canon}
use Rattle.store.specs.Build.{Sound, Ready, own}
use Rattle.store.proofs.Store.{Extends, extends_length}
use Rattle.store.proofs.Canon.{join_extends, canon_zero, canon_suc, canon_extends, canon_again, canon_cong, canon_skip}
use Rattle.store.proofs.Sound.{Means, halves_ready, canon_means}

-- What is built for a node only adds to the store, and building it again on any store that has grown since adds nothing.
pub own_extends : (w : List ℕ) (v p : ℕ) (o : List Node) → Extends o (own w v p o).store
unfolding own
own_extends w v p o = canon_extends (v - var_of w p) (var_of w p) (eval w (var_of w p) p) o

pub own_again : (w : List ℕ) (v p : ℕ) (o o' : List Node) → Extends (own w v p o).store o' → own w v p o' ≡ built o' (own w v p o).pointer
unfolding own
own_again w v p o o' x = canon_again (v - var_of w p) (var_of w p) (eval w (var_of w p) p) o o' x

-- The two parts of building a node.
abbrev pub low_built : List ℕ → ℕ → ℕ → List Node → Built
low_built w v p o = own w v (low_of w p) o

abbrev pub high_built : List ℕ → ℕ → ℕ → List Node → Built
high_built w v p o = own w v (high_of w p) (low_built w v p o).store

cond_bit : (p : ℕ) → p < 2 → cond (eqb p 1) 1 0 ≡ p
cond_bit zero h = refl
cond_bit (suc zero) h = refl
cond_bit (suc (suc p)) h = absurd (omega arith)

module _ (w : List ℕ) (v n : ℕ) (g : Layered w v n) where
  -- From any level at or before the node's own.
  own_down : (p : ℕ) → p < n → (d i k : ℕ) → i + d ≡ var_of w p → i + k ≡ v → (o : List Node) → canon k i (eval w i p) o ≡ own w v p o
  unfolding own
  own_down p h zero i k up left o =
      let here : var_of w p ≡ i = omega arith in
      let rest : v - var_of w p ≡ k = omega arith in
      rw (rest, here) refl
  own_down p h (suc d) i zero up left o = let most = var_most w v n g p h in absurd (omega arith)
  own_down p h (suc d) i (suc k) up left o = canon_skip k i (eval w i p) (eval w (suc i) p) o (skips false) (skips true) ∙ own_down p h d (suc i) k (omega arith) (omega arith) o
    where
      skips : (b : Bool) (bs : List Bool) → length bs ≡ k → eval w i p (b ∷ bs) ≡ eval w (suc i) p bs
      skips b bs l = rw (eval_cons w i p b bs, pass_skips w i p b (omega arith)) refl

  pub own_level : (p i k : ℕ) → p < n → i ≤ var_of w p → i + k ≡ v → (o : List Node) → canon k i (eval w i p) o ≡ own w v p o
  own_level p i k h below left o = own_down p h (var_of w p - i) i k (omega arith) left o

  -- A terminal is there already.
  pub own_terminal : (p : ℕ) → p < 2 → p < n → (o : List Node) → own w v p o ≡ built o p
  unfolding own
  own_terminal p t h o =
      let var = g.terminal p t h in
      let none : v - var_of w p ≡ 0 = omega arith in
      rw (none, canon_zero (var_of w p) (eval w (var_of w p) p) o, eval_nil w (var_of w p) p, cond_bit p t) refl

  -- Any other node: its low child, then its high child, then the node over them.
  own_child : (p : ℕ) → 2 ≤ p → p < n → (b : Bool) (o : List Node)
      → canon (v - suc (var_of w p)) (suc (var_of w p)) (half b (eval w (var_of w p) p)) o ≡ own w v (cond b (high_of w p) (low_of w p)) o
  own_child p two h b o =
      let a = g.node p two h in
      let k = v - suc (var_of w p) in
      let child = cond b (high_of w p) (low_of w p) in
      canon_cong k (suc (var_of w p)) (half b (eval w (var_of w p) p)) (eval w (suc (var_of w p)) child)
      (λ bs l. rw (eval_cons w (var_of w p) p b bs, pass_tests w (var_of w p) p b two refl) refl) o
      ∙ own_level child (suc (var_of w p)) k (child_in_lem w v n p a b) (child_above w v n p a b) (let most = a.var in omega arith) o

  own_suc : (p k : ℕ) → v - var_of w p ≡ suc k → (o : List Node) → own w v p o ≡ canon (suc k) (var_of w p) (eval w (var_of w p) p) o
  unfolding own
  own_suc p k e o = rw e refl

  pub own_node : (p : ℕ) → 2 ≤ p → p < n → (o : List Node)
      → own w v p o ≡ join (var_of w p) (low_built w v p o).pointer (high_built w v p o).pointer (high_built w v p o).store
  own_node p two h o =
      let a = (g.node p two h).var in
      let k = v - suc (var_of w p) in
      rw (
        own_suc p k (omega arith) o,
        canon_suc k (var_of w p) (eval w (var_of w p) p) o,
        own_child p two h false o,
        own_child p two h true (low_built w v p o).store,
      ) refl

  -- What is built for a node of the diagram on a sound store: the store stays sound, and the pointer is in it.
  pub own_means : (p : ℕ) → p < n → (o : List Node) → Sound v o → Means v (v - var_of w p) (var_of w p) (eval w (var_of w p) p) (own w v p o)
  unfolding own
  own_means p h o s = canon_means v (v - var_of w p) (var_of w p) (eval w (var_of w p) p) o s (let most = var_most w v n g p h in omega arith)

  pub own_ready : (p : ℕ) → 2 ≤ p → p < n → (o : List Node) → Sound v o
      → Ready v (high_built w v p o).store (var_of w p) (low_built w v p o).pointer (high_built w v p o).pointer
  own_ready p two h o s =
      let a = g.node p two h in
      let low = own_means (low_of w p) a.low o s in
      let high = own_means (high_of w p) a.high (low_built w v p o).store low.sound in
      halves_ready v (v - var_of w (low_of w p)) (v - var_of w (high_of w p)) (var_of w p) (var_of w (low_of w p)) (var_of w (high_of w p))
      (eval w (var_of w (low_of w p)) (low_of w p)) (eval w (var_of w (high_of w p)) (high_of w p)) (low_built w v p o) (high_built w v p o)
      a.var a.above_low a.above_high (own_extends w v (high_of w p) (low_built w v p o).store) low high

  -- The two children's stores have no more nodes than the node's own.
  pub own_high_fits : (p : ℕ) → 2 ≤ p → p < n → (o : List Node) → length (high_built w v p o).store ≤ length (own w v p o).store
  own_high_fits p two h o =
      rw (own_node p two h o) (extends_length (join_extends (var_of w p) (low_built w v p o).pointer (high_built w v p o).pointer (high_built w v p o).store))

  pub own_low_fits : (p : ℕ) → 2 ≤ p → p < n → (o : List Node) → length (low_built w v p o).store ≤ length (own w v p o).store
  own_low_fits p two h o =
      let high = extends_length (own_extends w v (high_of w p) (low_built w v p o).store) in
      let all = own_high_fits p two h o in
      omega arith
