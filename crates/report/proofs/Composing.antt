-- Lines from their parts.
use Prim.Native.Nat.{ℕ, zero, suc, ◌+◌, ◌-◌, ◌≤◌, ◌<◌}
use mathlib.Core.Path.{◌≡◌, refl, ap}
use mathlib.Core.List.{List, [], ◌++◌}
use native.Mathlib.Omega.{arith}
use native.Mathlib.Numerals.{add-one}
use Rattle.naturals.specs.Natural.{value}
use Rattle.diagram.specs.Diagram.{var_of, size, vars}
use Rattle.writing.specs.Writing.{bytes, Wrote}
use Rattle.writing.proofs.Laws.{wrote_then, Still, still_begins}
use Rattle.text.specs.Digits.{decimal, hexadecimal}
use Rattle.report.specs.Report.{line, lines, head, feed}

pub wrote_head : (w : List ℕ) (count : ℕ) {x : ℕ} {f₀ f₁ f₂ f₃ f₄ : List ℕ} {p₀ p₁ p₂ p₃ p₄ : ℕ} → x ≡ vars w
    → Wrote (bytes "vars " ++ decimal x) f₀ p₀ f₁ p₁ → Wrote (bytes "\nnodes " ++ decimal (size w)) f₁ p₁ f₂ p₂
    → Wrote (bytes "\ncount " ++ hexadecimal count) f₂ p₂ f₃ p₃ → Wrote feed f₃ p₃ f₄ p₄
    → Wrote (head w count) f₀ p₀ f₄ p₄
unfolding head
wrote_head w count ex a b d f =
    let t = wrote_then (wrote_then (wrote_then a b) d) f in
    rw ex at t

pub wrote_line : (w a : List ℕ) (p : ℕ) {x weight : ℕ} {f₀ f₁ f₂ f₃ f₄ : List ℕ} {p₀ p₁ p₂ p₃ p₄ : ℕ} → x ≡ var_of w p → value a ≡ weight
    → Wrote (bytes "node " ++ decimal p) f₀ p₀ f₁ p₁ → Wrote (bytes " var " ++ decimal x) f₁ p₁ f₂ p₂
    → Wrote (bytes " weight " ++ hexadecimal (value a)) f₂ p₂ f₃ p₃ → Wrote feed f₃ p₃ f₄ p₄
    → Wrote (line w weight p) f₀ p₀ f₄ p₄
unfolding line
wrote_line w ws p ex ea a b d f =
    let t = wrote_then (wrote_then (wrote_then a b) d) f in
    rw (ex, ea) at t

-- ---- a line for each node

module _ (w : List ℕ) (weight : ℕ → ℕ) where
  lines_suc : (p left : ℕ) → 0 < left → lines w weight p left ≡ line w (weight p) p ++ lines w weight (p + 1) (left - 1)
  unfolding lines
  lines_suc p zero h = absurd (omega arith)
  lines_suc p (suc k) h = let e : suc k - 1 ≡ k = omega arith in rw (e, add-one p)

  pub lines_begin : (n : ℕ) (out : List ℕ) (at : ℕ) → Still (lines w weight 0 n) out at (lines w weight 0 (n - 0)) out at
  lines_begin n out at = let e : n - 0 ≡ n = omega arith in rw e (still_begins (lines w weight 0 n) out at)

  pub lines_next : (n p : ℕ) → p < n → lines w weight p (n - p) ≡ line w (weight p) p ++ lines w weight (p + 1) (n - (p + 1))
  lines_next n p h =
      let e : n - (p + 1) ≡ n - p - 1 = omega arith in
      rw e (lines_suc p (n - p) (omega arith))

  pub lines_none : (n p : ℕ) → n ≤ p → lines w weight p (n - p) ≡ []
  unfolding lines
  lines_none n p h = let e : n - p ≡ 0 = omega arith in rw e

pub lines_same : (w : List ℕ) (f g : ℕ → ℕ) (p c : ℕ) → ((q : ℕ) → q < p + c → f q ≡ g q) → lines w f p c ≡ lines w g p c
unfolding lines
lines_same w f g p zero h = refl
lines_same w f g p (suc c) h =
    rw (h p (omega arith)) (ap (λ (l : List ℕ). line w (g p) p ++ l) (lines_same w f g (suc p) c (λ q l. h q (omega arith))))
