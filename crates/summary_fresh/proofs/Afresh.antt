-- The summary worked out, and compared with the one that is kept.
use Prim.Native.Nat.{ℕ, min, ◌*◌, ◌≤◌, ◌<◌}
use mathlib.Core.Path.{◌≡◌, sym, ap, ◌∙◌}
use mathlib.Core.Logic.{◌≢◌}
use mathlib.Core.Bool.{Bool, true, false}
use mathlib.Core.List.{List, ◌++◌}
use native.Mathlib.Omega.{arith}
use lib.ListN.{length, get_or, take, drop, replicate, length-append, length-replicate}
use lib.Seq.{drop_at}
use Rattle.diagram.specs.Limits.{max_variables}
use Rattle.diagram.specs.Diagram.{vars}
use Rattle.summary.specs.Summary.{record_words, summary_words}
use Rattle.summary.specs.Kept.{same, agrees, renewed}
use Rattle.summary.specs.Summaries.{Roomy}
use Rattle.summary.proofs.Counting.{renewed_is, renewed_front}
use Rattle.summary.proofs.Agreeing.{same_front, same_fails}
use Rattle.summary_count.specs.Counting.{Counted}
use Rattle.summary_count.specs.Walking.{Worked}

-- ---- worked out: cleared, nodes counted, slots counted

module _ (t s kept : List ℕ) (g : Roomy t s kept) {v : ℕ} (is-v : v ≡ vars t) {kept₁ : List ℕ}
    (cleared : kept₁ ≡ replicate (min (record_words * v) (length kept)) 0 ++ drop (record_words * v) kept) where
  zeros : List ℕ
  zeros = replicate (summary_words t) 0

  zeros_long : length zeros ≡ summary_words t
  unfolding zeros
  zeros_long = length-replicate {A = ℕ} (summary_words t) 0

  is_cleared : kept₁ ≡ zeros ++ drop (summary_words t) kept
  unfolding zeros
  is_cleared =
      let long = g.long in
      let least : min (record_words * v) (length kept) ≡ summary_words t = omega arith in
      cleared ∙ ap (λ (k : ℕ). replicate k 0 ++ drop (record_words * v) kept) least
      ∙ ap (λ (k : ℕ). zeros ++ drop (record_words * k) kept) is-v

  long₁ : summary_words t ≤ length kept₁
  long₁ = let e = ap length is_cleared ∙ length-append zeros (drop (summary_words t) kept) in let z = zeros_long in omega arith

  behind₁ : drop (summary_words t) kept₁ ≡ drop (summary_words t) kept
  behind₁ = ap (drop (summary_words t)) is_cleared ∙ drop_at zeros (drop (summary_words t) kept) (summary_words t) zeros_long

  module _ {kept₂ : List ℕ} (counted : Counted t kept₁ kept₂) where
    pub worked_out : {kept₃ : List ℕ} → Worked t s kept₂ kept₃ → kept₃ ≡ renewed t s kept
    worked_out {kept₃} worked =
        renewed_is t s kept kept₃
        (let a = worked.behind.long in let b = counted.behind.long in let l = long₁ in omega arith)
        (λ i h. worked.nodes i h ∙ counted.nodes i h)
        (λ i h. worked.slots i h)
        (worked.behind.rest ∙ counted.behind.rest ∙ behind₁)

-- ---- compared

pub record SameBelow (kept fresh : List ℕ) (n : ℕ) : Type 0 where
  pub words : (j : ℕ) → j < n → get_or kept j 0 ≡ get_or fresh j 0

module _ (kept fresh : List ℕ) where
  pub same_all : {at count : ℕ} → SameBelow kept fresh at → count ≤ at → count ≤ length kept → count ≤ length fresh → true ≡ same (take count kept) (take count fresh)
  same_all {at} {count} so_far end a b = sym (same_front count kept fresh a b (λ j h. so_far.words j (omega arith)))

  pub same_not : {at count x y : ℕ} → at < count → x ≡ get_or kept at 0 → y ≡ get_or fresh at 0 → x ≢ y → false ≡ same (take count kept) (take count fresh)
  same_not {at} {count} h is_x is_y other = sym (same_fails count kept fresh at h (λ e. other (is_x ∙ e ∙ sym is_y)))

-- The fresh one is worked out in local words.
abbrev pub blank : List ℕ
blank = replicate (record_words * max_variables) 0

module _ (t s kept : List ℕ) (g : Roomy t s kept) where
  module _ {fresh : List ℕ} (is-fresh : fresh ≡ renewed t s blank) {v : ℕ} (is-v : v ≡ vars t) where
    pub compared : {r : Bool} → r ≡ same (take (record_words * v) kept) (take (record_words * v) fresh) → r ≡ agrees t s kept
    unfolding agrees
    compared e =
        e ∙ ap (λ (n : ℕ). same (take (record_words * n) kept) (take (record_words * n) fresh)) is-v
        ∙ ap (same (take (summary_words t) kept)) (ap (take (summary_words t)) is-fresh ∙ renewed_front t s blank)
