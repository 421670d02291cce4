-- The tests of checks 11 and 17, as the code makes them.
use Prim.Native.Nat.{ℕ, ◌<◌}
use mathlib.Core.Path.{◌≡◌, sym, ◌∙◌, ap}
use mathlib.Core.Bool.{Bool, true, false, not, not-not}
use mathlib.Core.List.{List}
use borrow.Author.Tests.{eq-eqb, ne_eqb}
use lib.ListN.{get_or}
use lib.Dec.{ltb, eqb}
use Rattle.diagram.specs.Diagram.{var_of, low_of, high_of, size}
use Rattle.diagram.specs.Verdict.{reaches, is_above_low, is_above, is_broken}
use Rattle.diagram.specs.Faults.{order_number}
use Rattle.diagram.specs.Marking.{Marks}

module _ (w : List ℕ) (p var low lowVar : ℕ) (v : var ≡ var_of w p) (l : low ≡ low_of w p) (lv : lowVar ≡ var_of w low) where
  pub above_by_high : (high highVar : ℕ) (b₁ b : Bool) → b₁ ≡ ltb var lowVar → b₁ ≡ true → high ≡ high_of w p → highVar ≡ var_of w high
      → b ≡ ltb var highVar → b ≡ is_above w p
  unfolding is_above
  above_by_high high highVar b₁ b e₁ t h hv e =
      let x : ltb (var_of w p) (var_of w (low_of w p)) ≡ true = cc in
      let y : ltb (var_of w p) (var_of w (high_of w p)) ≡ b = cc in
      rw (x, y)

  pub above_not_low : (b₁ : Bool) → b₁ ≡ ltb var lowVar → b₁ ≡ false → false ≡ is_above w p
  unfolding is_above
  above_not_low b₁ e₁ t =
      let x : ltb (var_of w p) (var_of w (low_of w p)) ≡ false = cc in
      rw x

  pub number_by_low : (b₁ t : Bool) → b₁ ≡ ltb var lowVar → b₁ ≡ t → order_number t ≡ order_number (is_above_low w p)
  number_by_low b₁ t e₁ e =
      let x : ltb (var_of w p) (var_of w (low_of w p)) ≡ t = cc in
      rw x

module _ (w r : List ℕ) (p mark : ℕ) (l : p < size w) (marks : Marks w r) (m : mark ≡ get_or r p 0) where
  reached : (b : Bool) → eqb (get_or r p 0) 0 ≡ b → reaches w p ≡ not b
  reached b e = sym (not-not (reaches w p)) ∙ ap not (sym (marks p l) ∙ e)

  pub broken_unmarked : mark ≡ 0 → false ≡ is_broken w p
  unfolding is_broken
  broken_unmarked z = rw (reached true (eq-eqb (get_or r p 0) 0 (sym m ∙ z)))

  pub broken_marked : (above : Bool) → (mark ≡ 0 → ⊥) → above ≡ is_above w p → not above ≡ is_broken w p
  unfolding is_broken
  broken_marked above z e = rw (reached false (ne_eqb (get_or r p 0) 0 (λ x. z (m ∙ x)))) (ap not e)
