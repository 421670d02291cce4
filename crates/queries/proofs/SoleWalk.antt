-- The walk of clauses and valuations.
use Prim.Native.Nat.{ℕ, zero, suc, ◌+◌, ◌-◌, ◌≤◌, ◌<◌}
use mathlib.Core.Path.{◌≡◌, refl, sym, ap, ◌∙◌}
use mathlib.Core.Bool.{Bool, true, false, ◌&&◌, and-false}
use mathlib.Core.List.{List}
use native.Mathlib.Omega.{arith}
use native.Mathlib.Numerals.{add-one}
use lib.Dec.{eqb}
use borrow.Author.Tests.{lt-ltb, le-ltb, eq-eqb, ne_eqb}
use Rattle.diagram.specs.Limits.{max_variables}
use Rattle.diagram.specs.Diagram.{var_of, low_of, high_of, size, vars, root, Ordered}
use Rattle.diagram.proofs.Tests.{by-eq, and_both, both_and}
use Rattle.diagram.proofs.Reading.{layered, root_in, by_two, var_most}
use Rattle.queries.specs.Queries.{only_child, along, every, is_clause, is_valuation}

-- ---- tests of every number

pub every_at : (n : ℕ) (t : ℕ → Bool) → every n t ≡ true → (i : ℕ) → i < n → t i ≡ true
unfolding every
every_at zero t e i h = absurd (omega arith)
every_at (suc n) t e i h =
    let b = and_both (every n t) (t n) e in
    by-eq i n (λ x. rw x b.1) (λ ne. every_at n t b.0 i (omega arith))

pub every_no : (n : ℕ) (t : ℕ → Bool) (i : ℕ) → i < n → t i ≡ false → every n t ≡ false
unfolding every
every_no zero t i h e = absurd (omega arith)
every_no (suc n) t i h e = by-eq i n
    (λ x. let last : t n ≡ false = rw x at e in rw last (and-false (every n t)))
    (λ ne. rw (every_no n t i (omega arith) e) refl)

pub every_all : (n : ℕ) (t : ℕ → Bool) → ((i : ℕ) → i < n → t i ≡ true) → every n t ≡ true
unfolding every
every_all zero t f = refl
every_all (suc n) t f = both_and (every n t) (t n) (every_all n t (λ i h. f i (omega arith))) (f n (omega arith))

-- ---- steps

pub only_low : (w : List ℕ) (p : ℕ) → low_of w p ≡ 0 → only_child w p ≡ high_of w p
unfolding only_child
only_low w p e = simp (eq-eqb (low_of w p) 0 e)

pub only_high : (w : List ℕ) (p : ℕ) → (low_of w p ≡ 0 → ⊥) → high_of w p ≡ 0 → only_child w p ≡ low_of w p
unfolding only_child
only_high w p n e = simp (ne_eqb (low_of w p) 0 n, eq-eqb (high_of w p) 0 e)

pub only_none : (w : List ℕ) (p : ℕ) → (low_of w p ≡ 0 → ⊥) → (high_of w p ≡ 0 → ⊥) → only_child w p ≡ 0
unfolding only_child
only_none w p n m = simp (ne_eqb (low_of w p) 0 n, ne_eqb (high_of w p) 0 m)

-- one of the three
pub by_only : (w : List ℕ) (P : ℕ → Type 0) (p : ℕ) → (low_of w p ≡ 0 → P (high_of w p)) → ((low_of w p ≡ 0 → ⊥) → high_of w p ≡ 0 → P (low_of w p)) → P 0
    → P (only_child w p)
by_only w P p a b c = by-eq (low_of w p) 0
    (λ e. rw (only_low w p e) (a e))
    (λ n. by-eq (high_of w p) 0 (λ e. rw (only_high w p n e) (b n e)) (λ m. rw (only_none w p n m) c))

pub along_start : (w : List ℕ) → along w 0 ≡ root w
unfolding along
along_start w = refl

pub along_ended : (w : List ℕ) (k : ℕ) → along w k < 2 → along w (suc k) ≡ along w k
unfolding along
along_ended w k h = simp (lt-ltb (along w k) 2 h)

pub along_node : (w : List ℕ) (k : ℕ) → 2 ≤ along w k → along w (suc k) ≡ only_child w (along w k)
unfolding along
along_node w k h = simp (le-ltb (along w k) 2 h)

pub along_stays : (w : List ℕ) (j k : ℕ) → along w k < 2 → along w (k + j) ≡ along w k
along_stays w zero k h = ap (along w) (omega arith)
along_stays w (suc j) k h =
    let e : k + suc j ≡ suc (k + j) = omega arith in
    let r = along_stays w j k h in
    ap (along w) e ∙ along_ended w (k + j) (rw r h) ∙ r

-- ---- the loops: after i steps the walk stands at p

pub record Along (w : List ℕ) (i p : ℕ) : Type 0 where
  pub is : p ≡ along w i
  pub inside : p < size w
  pub passed : i ≤ var_of w p

-- the variables before i have been tested, one at each step
pub record Testing (w : List ℕ) (i p : ℕ) : Type 0 where
  pub at : Along w i p
  pub tested : (j : ℕ) → j < i → eqb (var_of w (along w j)) j ≡ true

module _ (w : List ℕ) (o : Ordered w) where
  -- the only child stands at a larger variable
  pub only_in : (p : ℕ) → 2 ≤ p → p < size w → (only_child w p < size w) × (var_of w p < var_of w (only_child w p))
  only_in p two h =
      let l = (layered w o).node p two h in
      by_only w (λ q. (q < size w) × (var_of w p < var_of w q)) p (λ e. (l.high, l.above_high)) (λ n e. (l.low, l.above_low)) (o.formed.some, l.var)

  pub along_inside : (k : ℕ) → along w k < size w
  along_inside zero = rw (along_start w) (root_in w o)
  along_inside (suc k) = by_two (along w k)
      (λ t. rw (along_ended w k t) (along_inside k))
      (λ two. rw (along_node w k two) (only_in (along w k) two (along_inside k)).0)

  pub along_begins : (n : ℕ) → n ≡ size w → Along w 0 (n - 1)
  along_begins n e = rw e (record { is = sym (along_start w); inside = root_in w o; passed = omega arith })

  module _ {i p : ℕ} (a : Along w i p) where
    pub along_var : var_of w p ≤ vars w
    along_var = var_most w (vars w) (size w) (layered w o) p a.inside

    pub along_on : 2 ≤ p → {c : ℕ} → c ≡ only_child w p → Along w (suc i) c × (vars w - var_of w c < vars w - var_of w p)
    along_on two {c} e =
        let l = (layered w o).node p two a.inside in
        let n = only_in p two a.inside in
        let next : along w (suc i) ≡ only_child w p = along_node w i (rw (← a.is) two) ∙ ap (only_child w) (sym a.is) in
        rw e (record { is = sym next; inside = n.0; passed = omega (arith, n.1, a.passed) }, omega (arith, n.1, l.var))

    module _ (end : p < 2) where
      -- as many steps as there are variables lead there too
      pub along_ends : along w (vars w) ≡ p
      along_ends =
          let v = (layered w o).terminal p end a.inside in
          let split : i + (vars w - i) ≡ vars w = omega (arith, a.passed) in
          ap (along w) (sym split) ∙ along_stays w (vars w - i) i (rw (← a.is) end) ∙ sym a.is

      pub clause_is : eqb p 1 ≡ is_clause w
      clause_is = ap (λ (q : ℕ). eqb q 1) (sym along_ends)

  -- ---- every variable

  pub testing_begins : (n : ℕ) → n ≡ size w → Testing w 0 (n - 1)
  testing_begins n e = record { at = along_begins n e; tested = λ j h. absurd (omega arith) }

  module _ {i p : ℕ} (t : Testing w i p) where
    pub testing_small : i ≤ max_variables
    testing_small = omega (arith, along_var t.at, t.at.passed, o.formed.variables)

    -- a variable that isn't the one that is due
    not_due : i < vars w → (var_of w p ≡ i → ⊥) → false ≡ is_valuation w
    not_due h ne =
        let fails : eqb (var_of w (along w i)) i ≡ false = rw (← t.at.is) (ne_eqb (var_of w p) i ne) in
        sym (rw (every_no (vars w) (λ j. eqb (var_of w (along w j)) j) i h fails) (and-false (is_clause w)))

    module _ (two : 2 ≤ p) {var : ℕ} (ev : var ≡ var_of w p) where
      pub testing_no : (var ≡ i → ⊥) → false ≡ is_valuation w
      testing_no ne =
          let l = (layered w o).node p two t.at.inside in
          not_due (omega (arith, l.var, t.at.passed)) (λ e. ne (ev ∙ e))

      pub testing_on : var ≡ i → {c : ℕ} → c ≡ only_child w p → Testing w (i + 1) c × (vars w - var_of w c < vars w - var_of w p)
      testing_on e {c} ec =
          let n = along_on t.at two ec in
          let here : eqb (var_of w (along w i)) i ≡ true = rw (← t.at.is) (eq-eqb (var_of w p) i (sym ev ∙ e)) in
          rw (add-one i) (record { at = n.0; tested = λ j h. by-eq j i (λ x. rw x here) (λ ne. t.tested j (omega arith)) }, n.1)

    module _ (end : p < 2) where
      pub testing_zero : (p ≡ 1 → ⊥) → false ≡ is_valuation w
      testing_zero ne =
          let no : is_clause w ≡ false = sym (clause_is t.at end) ∙ ne_eqb p 1 ne in
          sym (rw no refl)

      pub testing_one : p ≡ 1 → {v : ℕ} → v ≡ vars w → eqb i v ≡ is_valuation w
      testing_one one {v} ev = by-eq i v
          (λ e.
          let yes : is_clause w ≡ true = sym (clause_is t.at end) ∙ eq-eqb p 1 one in
          let all = every_all (vars w) (λ j. eqb (var_of w (along w j)) j) (λ j h. t.tested j (omega arith)) in
          eq-eqb i v e ∙ sym (both_and (is_clause w) (every (vars w) (λ j. eqb (var_of w (along w j)) j)) yes all))
          (λ ne.
          let at-v = (layered w o).terminal p end t.at.inside in
          ne_eqb i v ne ∙ not_due (omega (arith, t.at.passed)) (λ e. ne (omega arith)))
