-- What the checks of a list say.
use Prim.Native.Nat.{ℕ, ◌≤◌, ◌<◌}
use mathlib.Core.Path.{◌≡◌, refl, sym, ap, ◌∙◌}
use mathlib.Core.Bool.{Bool}
use mathlib.Core.List.{List}
use native.Mathlib.Omega.{arith}
use lib.ListN.{length, get_or}
use lib.Dec.{leb, ltb}
use borrow.Author.Tests.{lt-ltb, le-ltb}
use Rattle.std.specs.Prelude.{Some, None, position}
use Rattle.std.proofs.lemmas.List.Quantifiers.{position-Some}
use Rattle.std.proofs.lemmas.List.Sums.{fails_before_first}
use Rattle.std.proofs.lemmas.Grind.{common_steps}
use Rattle.std.specs.List.{position_or_len}
use Rattle.diagram.specs.Diagram.{size, vars}
use Rattle.diagram.specs.Verdict.{accepted, refused, row, first}
use Rattle.diagram.proofs.Count.{first_is}
use Rattle.approximation.specs.Cut.{list_of}

-- the first place as the verdicts have it
module _ (test : ℕ → Bool) (list : List ℕ) where
  abbrev first_in : ℕ
  first_in = first (λ i. test (get_or list i 0)) 0 (length list)

  first_there : {i : ℕ} → position test list ≡ Some i → (first_in ≡ i) × (i < length list)
  first_there {i} e =
      let h = position-Some test list i 0 e in
      (first_is (λ j. test (get_or list j 0)) 0 (length list) i (omega arith) (omega (arith, h.0)) (λ j l m. h.2 j m) (λ m. h.1), h.0)

  first_nowhere : position test list ≡ None → first_in ≡ length list
  first_nowhere e =
      let far : length list ≤ position_or_len test list = grind (arith, common_steps) in
      first_is (λ j. test (get_or list j 0)) 0 (length list) (length list) (omega arith) (omega arith)
      (λ j l m. fails_before_first test list j 0 (omega (arith, far)))
      (λ m. absurd (omega arith))

module _ (w list : List ℕ) {n : ℕ} (is-n : n ≡ size w) where
  out_is : {i : ℕ} → first_in (λ p. leb n p) list ≡ i → first_in (λ p. leb (size w) p) list ≡ i
  out_is f = ap (λ (k : ℕ). first_in (λ p. leb k p) list) (sym is-n) ∙ f

  pub says_13 : {i : ℕ} → position (λ p. leb n p) list ≡ Some i → refused 13 i ≡ list_of w list
  unfolding list_of row
  says_13 {i} e = let f = first_there (λ p. leb n p) list e in rw (out_is f.0, lt-ltb i (length list) f.1) refl

  module _ (none : position (λ p. leb n p) list ≡ None) where
    out_none : first_in (λ p. leb (size w) p) list ≡ length list
    out_none = out_is (first_nowhere (λ p. leb n p) list none)

    pub says_14 : {i : ℕ} → position (λ p. ltb p 2) list ≡ Some i → refused 14 i ≡ list_of w list
    unfolding list_of row
    says_14 {i} e =
        let f = first_there (λ p. ltb p 2) list e in
        rw (out_none, le-ltb (length list) (length list) (omega arith), f.0, lt-ltb i (length list) f.1) refl

    pub says_fine : {v : ℕ} → v ≡ vars w → position (λ p. ltb p 2) list ≡ None → accepted n v ≡ list_of w list
    unfolding list_of row
    says_fine v e =
        rw (out_none, le-ltb (length list) (length list) (omega arith), first_nowhere (λ p. ltb p 2) list e, le-ltb (length list) (length list) (omega arith), is-n, v) refl
