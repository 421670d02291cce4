-- Counting from a node's own variable on: for any test of bits that passes over the variables which a node skips.
use Prim.Native.Nat.{ℕ, zero, suc, ◌+◌, ◌-◌, ◌*◌, ◌^◌, ◌≤◌, ◌<◌}
use mathlib.Core.Path.{◌≡◌, refl, sym, ap, ◌∙◌}
use mathlib.Core.Logic.{◌≢◌}
use mathlib.Core.Bool.{Bool, true, false, cond, ◌&&◌, and-true, and-false}
use mathlib.Core.List.{List, ◌∷◌}
use native.Mathlib.Omega.{arith}
use native.Mathlib.Nat.{pow-suc, mul-one, mul_assoc, mul_comm, sub-zero}
use lib.Pow.{pow-add}
use lib.Dec.{eqb}
use borrow.Author.Tests.{eq-eqb, ne_eqb}
use Rattle.diagram.specs.Diagram.{var_of, low_of, high_of, size, vars, root, holds, Ordered}
use Rattle.diagram.specs.Reading.{eval}
use Rattle.diagram.specs.Valuations.{tally, meets, weight_of}
use Rattle.diagram.proofs.Reading.{Layered, layered, root_in, pass_tests, pass_skips, eval_cons, var_most, holds_is_eval}
use Rattle.diagram.proofs.Tally.{tally_suc, tally_same, tally_most, tally_none}
use Rattle.diagram.proofs.Meeting.{meet, meet_cons, meet_here, meet_skips, meet_none, meets_is_meet}
use Rattle.counts.specs.Table.{skip}
use Rattle.counts.specs.Worth.{worth_of}
use Rattle.weights.specs.Passes.{sat_of, through_of}

-- p's children share out its value, each doubled for the variables that the link skips
abbrev pub Shared : List ℕ → (ℕ → ℕ) → ℕ → Type 0
Shared w f p = f p ≡ f (low_of w p) * 2 ^ skip w p (low_of w p) + f (high_of w p) * 2 ^ skip w p (high_of w p)

module _ (w : List ℕ) (v n : ℕ) (g : Layered w v n) (test : ℕ → ℕ → List Bool → Bool)
    (skips : (i p : ℕ) (b : Bool) (bs : List Bool) → i < var_of w p → test i p (b ∷ bs) ≡ test (suc i) p bs) where
  level_suc : (i p : ℕ) → i < v
      → tally (v - i) (test i p) ≡ tally (v - suc i) (λ bs. test i p (false ∷ bs)) + tally (v - suc i) (λ bs. test i p (true ∷ bs))
  level_suc i p h =
      let e : v - i ≡ suc (v - suc i) = omega arith in
      ap (λ (k : ℕ). tally k (test i p)) e ∙ tally_suc (v - suc i) (test i p)

  -- each skipped variable doubles
  pub level_skip : (d i p : ℕ) → i + d ≡ var_of w p → p < n → tally (v - i) (test i p) ≡ tally (v - var_of w p) (test (var_of w p) p) * 2 ^ d
  level_skip zero i p e h =
      let same : i ≡ var_of w p = omega arith in
      rw same (omega (arith, mul-one (tally (v - var_of w p) (test (var_of w p) p))))
  level_skip (suc d) i p e h =
      let m = var_most w v n g p h in
      let half : (b : Bool) → tally (v - suc i) (λ bs. test i p (b ∷ bs)) ≡ tally (v - suc i) (test (suc i) p) =
      λ b. tally_same (v - suc i) (λ bs. test i p (b ∷ bs)) (test (suc i) p) (λ bs l. skips i p b bs (omega arith)) in
      let rest = level_skip d (suc i) p (omega arith) h in
      let t : ℕ = tally (v - var_of w p) (test (var_of w p) p) in
      omega (arith, level_suc i p (omega arith), half false, half true, rest, ap (λ (x : ℕ). t * x) (pow-suc 2 d), mul_assoc t (2 ^ d) 2)

  pub level_node : (p : ℕ) → 2 ≤ p → p < n
      → ((b : Bool) (bs : List Bool) → test (var_of w p) p (b ∷ bs) ≡ test (suc (var_of w p)) (cond b (high_of w p) (low_of w p)) bs)
      → Shared w (λ q. tally (v - var_of w q) (test (var_of w q) q)) p
  level_node p two h goes =
      let l = g.node p two h in
      let half : (b : Bool) → tally (v - suc (var_of w p)) (λ bs. test (var_of w p) p (b ∷ bs)) ≡ tally (v - suc (var_of w p)) (test (suc (var_of w p)) (cond b (high_of w p) (low_of w p))) =
      λ b. tally_same (v - suc (var_of w p)) (λ bs. test (var_of w p) p (b ∷ bs)) (test (suc (var_of w p)) (cond b (high_of w p) (low_of w p))) (λ bs z. goes b bs) in
      let a = level_skip (skip w p (low_of w p)) (suc (var_of w p)) (low_of w p) (omega arith) l.low in
      let b = level_skip (skip w p (high_of w p)) (suc (var_of w p)) (high_of w p) (omega arith) l.high in
      omega (arith, level_suc (var_of w p) p l.var, half false, half true)

module _ (w : List ℕ) (o : Ordered w) where
  abbrev graph : Layered w (vars w) (size w)
  graph = layered w o

  eval_skips : (i p : ℕ) (b : Bool) (bs : List Bool) → i < var_of w p → eval w i p (b ∷ bs) ≡ eval w (suc i) p bs
  eval_skips i p b bs h = eval_cons w i p b bs ∙ rw (pass_skips w i p b h)

  eval_goes : (p : ℕ) → 2 ≤ p → (b : Bool) (bs : List Bool)
      → eval w (var_of w p) p (b ∷ bs) ≡ eval w (suc (var_of w p)) (cond b (high_of w p) (low_of w p)) bs
  eval_goes p two b bs = eval_cons w (var_of w p) p b bs ∙ rw (pass_tests w (var_of w p) p b two refl)

  -- ---- those whose path meets t

  module _ (t : ℕ) where
    abbrev both : ℕ → ℕ → List Bool → Bool
    both i p bs = eval w i p bs && meet w (eqb t) i p bs

    both_skips : (i p : ℕ) (b : Bool) (bs : List Bool) → i < var_of w p → both i p (b ∷ bs) ≡ both (suc i) p bs
    both_skips i p b bs h = rw (eval_skips i p b bs h, meet_skips w (vars w) (size w) graph (eqb t) i p b bs h)

    both_goes : (p : ℕ) → 2 ≤ p → p ≢ t → (b : Bool) (bs : List Bool)
        → both (var_of w p) p (b ∷ bs) ≡ both (suc (var_of w p)) (cond b (high_of w p) (low_of w p)) bs
    both_goes p two ne b bs =
        rw (
          eval_goes p two b bs,
          meet_cons w (eqb t) (var_of w p) p b bs,
          ne_eqb t p (λ e. ne (sym e)),
          pass_tests w (var_of w p) p b two refl,
        )

    pub through_node : (p : ℕ) → 2 ≤ p → p < size w → p ≢ t → Shared w (through_of w t) p
    unfolding through_of
    through_node p two h ne = level_node w (vars w) (size w) graph both both_skips p two h (both_goes p two ne)

    -- t itself is met by all; from another node that stands at no smaller variable it is met by none
    pub through_self : through_of w t t ≡ sat_of w t
    unfolding through_of worth_of
    through_self =
        tally_same (vars w - var_of w t) (both (var_of w t) t) (eval w (var_of w t) t)
        (λ bs l. rw (meet_here w (eqb t) (var_of w t) t bs (eq-eqb t t refl)) (and-true (eval w (var_of w t) t bs)))

    pub through_none : (p : ℕ) → p < size w → p ≢ t → var_of w t ≤ var_of w p → through_of w t p ≡ 0
    unfolding through_of
    through_none p h ne up =
        tally_none (vars w - var_of w p) (both (var_of w p) p)
        (λ bs l. rw (meet_none w (vars w) (size w) graph t (var_of w p) p bs h ne up) (and-false (eval w (var_of w p) p bs)))

    -- from the root on: the weight
    pub weight_through : weight_of w t ≡ 2 ^ var_of w (root w) * through_of w t (root w)
    unfolding through_of
    weight_through =
        tally_same (vars w) (λ bs. holds w bs && meets w bs (eqb t)) (both 0 (root w))
        (λ bs l. rw (holds_is_eval w o bs l, meets_is_meet w o (eqb t) bs l))
        ∙ ap (λ (k : ℕ). tally k (both 0 (root w))) (sym (sub-zero (vars w)))
        ∙ level_skip w (vars w) (size w) graph both both_skips (var_of w (root w)) 0 (root w) (omega arith) (root_in w o)
        ∙ mul_comm (tally (vars w - var_of w (root w)) (both (var_of w (root w)) (root w))) (2 ^ var_of w (root w))

  -- ---- all valuations of the variables from a node's own on

  pub all_node : (p : ℕ) → 2 ≤ p → p < size w → Shared w (λ q. 2 ^ (vars w - var_of w q)) p
  all_node p two h =
      let l = graph.node p two h in
      let half : (q : ℕ) → q < size w → var_of w p < var_of w q → 2 ^ (vars w - var_of w q) * 2 ^ skip w p q ≡ 2 ^ (vars w - var_of w p - 1) =
      λ q m up.
      let most = var_most w (vars w) (size w) graph q m in
      let e : vars w - var_of w q + skip w p q ≡ vars w - var_of w p - 1 = sums (vars w) (var_of w q) (var_of w p) most up in
      sym (pow-add 2 (vars w - var_of w q) (skip w p q)) ∙ ap (λ (k : ℕ). 2 ^ k) e
      in
      let e : vars w - var_of w p ≡ suc (vars w - var_of w p - 1) = omega (arith, l.var) in
      ap (λ (k : ℕ). 2 ^ k) e ∙ omega (arith, pow-suc 2 (vars w - var_of w p - 1), half (low_of w p) l.low l.above_low, half (high_of w p) l.high l.above_high)
    where
      sums : (v q p : ℕ) → q ≤ v → p < q → v - q + (q - p - 1) ≡ v - p - 1
      sums v q p a b = omega arith

  pub all_root : 2 ^ var_of w (root w) * 2 ^ (vars w - var_of w (root w)) ≡ 2 ^ vars w
  all_root =
      let most = var_most w (vars w) (size w) graph (root w) (root_in w o) in
      let e : var_of w (root w) + (vars w - var_of w (root w)) ≡ vars w = omega arith in
      sym (pow-add 2 (var_of w (root w)) (vars w - var_of w (root w))) ∙ ap (λ (k : ℕ). 2 ^ k) e
