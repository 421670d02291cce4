-- What the checks of a count target say.
use Prim.Native.Nat.{ℕ, ◌^◌, ◌≤◌}
use mathlib.Core.Path.{◌≡◌, refl, sym, ap, ◌∙◌}
use mathlib.Core.Bool.{Bool, true, false, not, ◌&&◌, and-false}
use mathlib.Core.List.{List}
use native.Mathlib.Omega.{arith}
use native.Mathlib.Decide.{dec_lt}
use lib.Dec.{leb, ltb, eqb}
use borrow.Author.Tests.{lt-ltb, le-ltb, le-leb, lt-leb, eq-eqb, ne_eqb, eqb-true, eqb-false, leb-true, leb-false}
use Rattle.naturals.specs.Natural.{value, Fitted}
use Rattle.naturals.specs.declared.Natural.{Natural}
use Rattle.std.specs.Prelude.{Option, Some}
use Rattle.naturals.proofs.Answer.{fitted_some, answers_said}
use Rattle.counts.proofs.Nodes.{under_limit}
use Rattle.diagram.specs.Limits.{max_variables}
use Rattle.diagram.specs.Diagram.{size, vars}
use Rattle.diagram.specs.Verdict.{accepted, refused, row}
use Rattle.approximation.specs.Cut.{between, under_count_of, over_count_of}

-- the power that stands for all valuations is there
pub power_there : (v : ℕ) {f : Option Natural} → v ≤ max_variables → Fitted (2 ^ v) f → (a : Natural) × (f ≡ Some a)
power_there v h e = let s = fitted_some e (under_limit (2 ^ v) v (omega arith) h) in (s.0, s.1)

pub power_value : (v : ℕ) {f : Option Natural} {a : Natural} → Fitted (2 ^ v) f → f ≡ Some a → value a.words ≡ 2 ^ v
power_value v e is = (answers_said e is).worth

-- ---- strictly between

module _ (k v : ℕ) where
  pub between_none : {z : Bool} → z ≡ eqb k 0 → z ≡ true → false ≡ (ltb 0 k && ltb k (2 ^ v))
  between_none e yes-case =
      let none = eqb-true k 0 (sym e ∙ yes-case) in
      rw (le-ltb 0 k (omega arith)) refl

  pub between_some : {z : Bool} → z ≡ eqb k 0 → z ≡ false → {all : ℕ} → all ≡ 2 ^ v → {b : Bool} → b ≡ leb all k → not b ≡ (ltb 0 k && ltb k (2 ^ v))
  between_some e no-case {all} is {b} f =
      let some = eqb-false k 0 (sym e ∙ no-case) in
      elim (dec_lt k (2 ^ v)) [
        | yes h ↦ rw (f, is, lt-leb (2 ^ v) k h, lt-ltb 0 k (omega arith), lt-ltb k (2 ^ v) h) refl
        | no h ↦ rw (f, is, le-leb (2 ^ v) k (omega arith), le-ltb k (2 ^ v) (omega arith), and-false (ltb 0 k)) refl
      ]

-- ---- the verdicts

module _ (w : List ℕ) (k : ℕ) {n v : ℕ} (is-n : n ≡ size w) (is-v : v ≡ vars w) where
  between_is : {b : Bool} (c : Bool) → b ≡ (ltb 0 k && ltb k (2 ^ v)) → b ≡ c → between w k ≡ c
  unfolding between
  between_is c e f = ap (λ (i : ℕ). ltb 0 k && ltb k (2 ^ i)) (sym is-v) ∙ sym e ∙ f

  pub under_19 : {b : Bool} → n ≡ 2 → b ≡ (ltb 0 k && ltb k (2 ^ v)) → b ≡ true → refused 19 0 ≡ under_count_of w k
  unfolding under_count_of row
  under_19 two e t = rw (between_is true e t, eq-eqb (size w) 2 (sym is-n ∙ two)) refl

  pub under_two : {b : Bool} → b ≡ (ltb 0 k && ltb k (2 ^ v)) → b ≡ false → accepted n v ≡ under_count_of w k
  unfolding under_count_of row
  under_two e t = rw (between_is false e t, is-n, is-v) refl

  pub under_other : (n ≡ 2 → ⊥) → accepted n v ≡ under_count_of w k
  unfolding under_count_of row
  under_other ne = rw (ne_eqb (size w) 2 (λ e. ne (is-n ∙ e)), and-false (between w k), is-n, is-v) refl

  module _ {all : ℕ} (is_all : all ≡ 2 ^ v) {c : Bool} (is_c : c ≡ leb k all) where
    limit_is : all ≡ 2 ^ vars w
    limit_is = is_all ∙ ap (λ (i : ℕ). 2 ^ i) is-v

    pub over_16 : c ≡ false → refused 16 0 ≡ over_count_of w k
    unfolding over_count_of row
    over_16 f =
        let high = leb-false k all (sym is_c ∙ f) in
        let e = limit_is in
        rw (lt-ltb (2 ^ vars w) k (omega arith)) refl

    module _ (t : c ≡ true) where
      within : ltb (2 ^ vars w) k ≡ false
      within = let low = leb-true k all (sym is_c ∙ t) in let e = limit_is in le-ltb (2 ^ vars w) k (omega arith)

      pub over_19 : {b : Bool} → n ≡ 1 → b ≡ (ltb 0 k && ltb k (2 ^ v)) → b ≡ true → refused 19 0 ≡ over_count_of w k
      unfolding over_count_of row
      over_19 one e t = rw (within, between_is true e t, eq-eqb (size w) 1 (sym is-n ∙ one)) refl

      pub over_one : {b : Bool} → b ≡ (ltb 0 k && ltb k (2 ^ v)) → b ≡ false → accepted n v ≡ over_count_of w k
      unfolding over_count_of row
      over_one e t = rw (within, between_is false e t, is-n, is-v) refl

      pub over_other : (n ≡ 1 → ⊥) → accepted n v ≡ over_count_of w k
      unfolding over_count_of row
      over_other ne = rw (within, ne_eqb (size w) 1 (λ e. ne (is-n ∙ e)), and-false (between w k), is-n, is-v) refl
