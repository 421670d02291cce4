-- What the check of a size target says.
use Prim.Native.Nat.{ℕ, ◌≤◌}
use mathlib.Core.Path.{◌≡◌, refl, sym, ap, ◌∙◌}
use mathlib.Core.Logic.{◌≢◌}
use mathlib.Core.Bool.{Bool, true, false, or-false, and-false}
use mathlib.Core.List.{List}
use native.Mathlib.Omega.{arith}
use lib.Dec.{ltb, eqb}
use borrow.Author.Tests.{eq-eqb, ne_eqb}
use Rattle.diagram.specs.Limits.{max_nodes}
use Rattle.diagram.specs.Diagram.{size, vars, Accepted}
use Rattle.diagram.specs.Valuations.{count_of}
use Rattle.diagram.specs.Verdict.{Verdict, said, accepted, refused, row, and_then}
use Rattle.diagram.specs.declared.verdict.Extent.{Extent}
use Rattle.diagram.specs.declared.verdict.Refused.{Refused}
use Rattle.std.specs.Prelude.{Ok, Err}
use Rattle.approximation.specs.Cut.{under_size_of, over_size_of}
use Rattle.told.specs.Told.{too_small, size_told_of, Passed}

-- ---- the test

module _ (above : Bool) (w : List ℕ) (t : ℕ) where
  pub small_none : t ≡ 0 → true ≡ too_small above w t
  unfolding too_small
  small_none e = rw (eq-eqb t 0 e) refl

  pub small_below : t ≢ 0 → above ≡ false → false ≡ too_small above w t
  unfolding too_small
  small_below ne e = rw (ne_eqb t 0 ne, e) refl

  pub small_many : t ≢ 0 → t ≢ 1 → false ≡ too_small above w t
  unfolding too_small
  small_many ne other = rw (ne_eqb t 0 ne, ne_eqb t 1 other, and-false above) refl

  pub small_one : t ≡ 1 → above ≡ true → {r : Bool} → r ≡ ltb 0 (count_of w) → r ≡ too_small above w t
  unfolding too_small
  small_one e up h =
      let ne : t ≢ 0 = λ none. omega arith in
      rw (ne_eqb t 0 ne, eq-eqb t 1 e, up) h

-- ---- the verdict

told_row : (above : Bool) (w : List ℕ) (t : ℕ) → size_told_of above w t ≡ row 18 (too_small above w t) 0 (accepted (size w) (vars w))
unfolding too_small under_size_of over_size_of
told_row true w t = refl
told_row false w t = ap (λ (b : Bool). row 18 b 0 (accepted (size w) (vars w))) (sym (or-false (eqb t 0)))

module _ (w : List ℕ) {checked : Verdict} (passed : Passed w (said checked)) {x : Extent} (e : checked ≡ Ok x) where
  passes : Accepted w × (x.nodes ≡ size w) × (x.vars ≡ vars w)
  passes = passed x.nodes x.vars (ap said e)

  pub passed_few : x.nodes ≤ max_nodes
  passed_few = let h = passes in omega (arith, h.0.formed.few)

  module _ (above : Bool) (t : ℕ) {small : Bool} (says : Accepted w → x.nodes ≡ size w → small ≡ too_small above w t) where
    told_is : (b : Bool) → small ≡ b → size_told_of above w t ≡ row 18 b 0 (accepted (size w) (vars w))
    told_is b f = told_row above w t ∙ ap (λ (i : Bool). row 18 i 0 (accepted (size w) (vars w))) (sym (says passes.0 passes.1) ∙ f)

    pub tells_18 : small ≡ true → refused 18 0 ≡ and_then (said checked) (size_told_of above w t)
    unfolding row
    tells_18 f = rw (e, told_is true f) refl

    pub tells_fine : small ≡ false → accepted x.nodes x.vars ≡ and_then (said checked) (size_told_of above w t)
    unfolding row
    tells_fine f = rw (e, told_is false f, passes.1, passes.2) refl

pub tells_first : (above : Bool) (w : List ℕ) (t : ℕ) {checked : Verdict} {y : Refused} → checked ≡ Err y → said (Err y) ≡ and_then (said checked) (size_told_of above w t)
tells_first above w t e = rw e refl
