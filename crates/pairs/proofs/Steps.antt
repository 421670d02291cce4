-- One step of a pair: the smaller variable, and where both sides go.
use Prim.Native.Nat.{ℕ, ◌≤◌, min}
use mathlib.Core.Path.{◌≡◌, refl, sym, ap, ◌∙◌}
use mathlib.Core.Bool.{Bool, true, false, ◌&&◌}
use mathlib.Core.List.{List}
use native.Mathlib.Omega.{arith}
use lib.Dec.{ltb}
use borrow.Author.Tests.{ltb-true, ltb-false}
use Rattle.diagram.specs.Diagram.{var_of, low_of, high_of}
use Rattle.diagram.specs.Reading.{pass}
use Rattle.diagram.proofs.Reading.{pass_tests, by_pass}

-- ---- what the code answers

pub level_first : {x y m n : ℕ} → x ≡ m → y ≡ n → ltb x y ≡ true → x ≡ min m n
level_first {x} {y} ex ey t = omega (arith, ltb-true x y t)

pub level_second : {x y m n : ℕ} → x ≡ m → y ≡ n → ltb x y ≡ false → y ≡ min m n
level_second {x} {y} ex ey t = omega (arith, ltb-false x y t)

pub ended_both : (p q : ℕ) {x y : Bool} → x ≡ ltb p 2 → x ≡ true → y ≡ ltb q 2 → y ≡ (ltb p 2 && ltb q 2)
ended_both p q ex t ey = ey ∙ ap (λ (b : Bool). b && ltb q 2) (sym t ∙ ex)

pub ended_no : (p q : ℕ) {x : Bool} → x ≡ ltb p 2 → x ≡ false → false ≡ (ltb p 2 && ltb q 2)
ended_no p q ex t = ap (λ (b : Bool). b && ltb q 2) (sym t ∙ ex)

pub pass_high : (w : List ℕ) (i p : ℕ) {b : Bool} → 2 ≤ p → var_of w p ≡ i → b ≡ true → {r : ℕ} → r ≡ high_of w p → r ≡ pass w i p b
pass_high w i p two e t er = er ∙ sym (rw t (pass_tests w i p true two e))

pub pass_low : (w : List ℕ) (i p : ℕ) {b : Bool} → 2 ≤ p → var_of w p ≡ i → b ≡ false → {r : ℕ} → r ≡ low_of w p → r ≡ pass w i p b
pass_low w i p two e t er = er ∙ sym (rw t (pass_tests w i p false two e))

-- a node that doesn't test the variable stays
pub pass_other : (w : List ℕ) (i p : ℕ) (b : Bool) → (var_of w p ≡ i → ⊥) → pass w i p b ≡ p
pass_other w i p b ne = by_pass (λ q. q ≡ p) w i p b (λ two e. absurd (ne e)) refl
