-- Different places of a pool's table stand for different conditions: some valuation tells them apart, because no node has the same child
-- twice and no two nodes are equal.
use Prim.Native.Nat.{ℕ, zero, suc, ◌+◌, ◌≤◌, ◌<◌}
use mathlib.Core.Path.{◌≡◌, refl, sym, ap, ◌∙◌, subst}
use mathlib.Core.Logic.{⊎_elim, ◌≢◌}
use mathlib.Core.Bool.{Bool, true, false, cond}
use mathlib.Core.List.{List, [], ◌∷◌}
use native.Mathlib.Omega.{arith}
use lib.ListN.{length}
use lib.Dec.{eqb}
use borrow.Author.Tests.{eq-eqb, ne_eqb}
use Rattle.diagram.specs.Diagram.{var_of, low_of, high_of, size, vars, Ordered}
use Rattle.diagram.specs.Reading.{pass, eval}
use Rattle.diagram.proofs.Tests.{by-eq, not_both}
use Rattle.diagram.proofs.Reading.{Layered, layered, at_end, at_level, pass_tests, pass_skips}
use Rattle.pool.specs.Pool.{WellFormed, Inner}
use Rattle.pool.proofs.Walked.{walked_whole, walked_ordered}
use Rattle.summary.proofs.Counting.{Place, place_node, place_inside, low_place, high_place}

pub table_ordered : (t s : List ℕ) → WellFormed t s → 0 < vars t → Ordered t
table_ordered t s f some = subst Ordered (walked_whole t some) (walked_ordered t s f)

ends_apart : (p q : ℕ) → p < 2 → q < 2 → p ≢ q → eqb p 1 ≢ eqb q 1
ends_apart p q a b ne e = by-eq p 1
    (λ one. not_both (eqb p 1) (eq-eqb p 1 one) (e ∙ ne_eqb q 1 (omega arith)))
    (λ none. not_both (eqb q 1) (eq-eqb q 1 (omega arith)) (sym e ∙ ne_eqb p 1 none))

module _ (t s : List ℕ) (f : WellFormed t s) (some : 0 < vars t) where
  layers : Layered t (vars t) (size t)
  layers = layered t (table_ordered t s f some)

  -- A place at level j or a larger one.
  pub record Stands (j p : ℕ) : Type 0 where
    pub place : Place t p
    pub level : j ≤ var_of t p

  -- It is a node that tests j, or it stands at a larger variable.
  pub by_level : {C : Type 0} (j p : ℕ) → j < vars t → Stands j p → (Inner t p → var_of t p ≡ j → C) → (j < var_of t p → C) → C
  by_level j p h st tests skips = ⊎_elim
      (λ a. tests (place_node t p st.place a.0) a.1)
      skips
      (at_level t (vars t) (size t) layers j p (place_inside t s f p st.place) st.level h)

  child_stands : (p : ℕ) (b : Bool) → Inner t p → Stands (suc (var_of t p)) (cond b (high_of t p) (low_of t p))
  child_stands p true node = record { place = high_place t s f p node; level = (f.ordered p node).high }
  child_stands p false node = record { place = low_place t s f p node; level = (f.ordered p node).low }

  pub pass_stands : (j p : ℕ) (b : Bool) → j < vars t → Stands j p → Stands (suc j) (pass t j p b)
  pass_stands j p b h st = by_level j p h st
      (λ node e. rw (pass_tests t j p b node.after e) (subst (λ (x : ℕ). Stands (suc x) (cond b (high_of t p) (low_of t p))) e (child_stands p b node)))
      (λ up. rw (pass_skips t j p b up) (record { place = st.place; level = up }))

  -- Two places that go the same way for both bits are one: a node goes to its two children, and others stay.
  module _ (j p q : ℕ) (low : pass t j p false ≡ pass t j q false) (high : pass t j p true ≡ pass t j q true) where
    both_test : Inner t p → var_of t p ≡ j → Inner t q → var_of t q ≡ j → p ≡ q
    both_test x d y e =
        f.distinct p q x y (d ∙ sym e)
        (sym (pass_tests t j p false x.after d) ∙ low ∙ pass_tests t j q false y.after e)
        (sym (pass_tests t j p true x.after d) ∙ high ∙ pass_tests t j q true y.after e)

    one_tests : Inner t p → var_of t p ≡ j → j < var_of t q → ⊥
    one_tests x d up = f.lean p x
        (sym (pass_tests t j p false x.after d) ∙ low ∙ pass_skips t j q false up
        ∙ sym (sym (pass_tests t j p true x.after d) ∙ high ∙ pass_skips t j q true up))

    none_tests : j < var_of t p → j < var_of t q → p ≡ q
    none_tests a b = sym (pass_skips t j p false a) ∙ low ∙ pass_skips t j q false b

  pass_once : (j p q : ℕ) → j < vars t → Stands j p → Stands j q → pass t j p false ≡ pass t j q false → pass t j p true ≡ pass t j q true → p ≡ q
  pass_once j p q h a b low high = by_level j p h a
      (λ x d. by_level j q h b (both_test j p q low high x d) (λ up. absurd (one_tests j p q low high x d up)))
      (λ up. by_level j q h b
      (λ y e. absurd (one_tests j q p (sym low) (sym high) y e up))
      (none_tests j p q low high up))

  -- Bits of the variables from j on, for which the paths from two places end apart.
  pub record Apart (j p q k : ℕ) : Type 0 where
    pub bits : List Bool
    pub count : length bits ≡ k
    pub differ : eval t j p bits ≢ eval t j q bits

  one_bit : (j p q k : ℕ) (b : Bool) → Apart (suc j) (pass t j p b) (pass t j q b) k → Apart j p q (suc k)
  unfolding eval
  one_bit j p q k b a = record { bits = b ∷ a.bits; count = ap suc a.count; differ = a.differ }

  pub apart : (k j p q : ℕ) → j + k ≡ vars t → Stands j p → Stands j q → p ≢ q → Apart j p q k
  unfolding eval
  apart zero j p q left a b ne =
      let l = a.level in
      let m = b.level in
      record {
        bits = [];
        count = refl;
        differ = ends_apart p q
            (at_end t (vars t) (size t) layers p (place_inside t s f p a.place) (omega arith))
            (at_end t (vars t) (size t) layers q (place_inside t s f q b.place) (omega arith))
            ne;
      }
  apart (suc k) j p q left a b ne =
      let h : j < vars t = omega arith in
      by-eq (pass t j p false) (pass t j q false)
      (λ low. by-eq (pass t j p true) (pass t j q true)
      (λ high. absurd (ne (pass_once j p q h a b low high)))
      (λ high. one_bit j p q k true (apart k (suc j) _ _ (omega arith) (pass_stands j p true h a) (pass_stands j q true h b) high)))
      (λ low. one_bit j p q k false (apart k (suc j) _ _ (omega arith) (pass_stands j p false h a) (pass_stands j q false h b) low))
