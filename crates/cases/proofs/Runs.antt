-- Runs of equal words.
use Prim.Native.Nat.{ℕ, suc, ◌+◌, ◌-◌, ◌≤◌, ◌<◌}
use mathlib.Core.Path.{◌≡◌, refl, ap, ◌∙◌}
use mathlib.Core.List.{List}
use native.Mathlib.Omega.{arith}
use native.Mathlib.Decide.{dec_lt}
use native.Mathlib.Numerals.{add-one}
use lib.ListN.{length, get_or, drop, drop_of_length-le}
use lib.Seq.{drop-cons}
use borrow.Author.Tests.{eq-eqb, ne_eqb}
use Rattle.cases.specs.Lines.{run_of}

module _ (room : List ℕ) (x : ℕ) where
  pub run_on : (i : ℕ) → i < length room → get_or room i 0 ≡ x → run_of (drop i room) x ≡ suc (run_of (drop (suc i) room) x)
  unfolding run_of
  run_on i h e = ap (λ (l : List ℕ). run_of l x) (drop-cons room i 0 h) ∙ rw (eq-eqb (get_or room i 0) x e) refl

  pub run_stops : (i : ℕ) → i < length room → (get_or room i 0 ≡ x → ⊥) → run_of (drop i room) x ≡ 0
  unfolding run_of
  run_stops i h ne = ap (λ (l : List ℕ). run_of l x) (drop-cons room i 0 h) ∙ rw (ne_eqb (get_or room i 0) x ne) refl

  pub run_ends : (i : ℕ) → length room ≤ i → run_of (drop i room) x ≡ 0
  unfolding run_of
  run_ends i h = ap (λ (l : List ℕ). run_of l x) (drop_of_length-le room {i = i} h)

  -- so far all have been x
  pub record Run (from i : ℕ) : Type 0 where
    pub within : from ≤ i
    pub same : i + run_of (drop i room) x ≡ from + run_of (drop from room) x

  pub run_again : {from i : ℕ} → Run from i → i < length room → get_or room i 0 ≡ x → Run from (i + 1)
  run_again {from} {i} r h e = record {
    within = let w = r.within in omega arith;
    same = let s = r.same in let one = run_on i h e in rw (add-one i) (omega arith);
  }

  pub run_begins : (from : ℕ) → Run from from
  run_begins from = record { within = omega arith; same = refl }

  pub run_stopped : {from i : ℕ} → Run from i → i < length room → (get_or room i 0 ≡ x → ⊥) → i - from ≡ run_of (drop from room) x
  run_stopped {from} {i} r h ne = let s = r.same in let w = r.within in let none = run_stops i h ne in omega arith

  -- From a place past the end there is none.
  pub run_ended : {from i : ℕ} → Run from i → length room ≤ i → (from ≤ length room → i ≤ length room) → length room - from ≡ run_of (drop from room) x
  run_ended {from} {i} r h most = let s = r.same in let w = r.within in let none = run_ends i h in elim (dec_lt (length room) from) [
    | yes past ↦ omega (arith, run_ends from (omega arith))
    | no here ↦ let m = most (omega arith) in omega arith
  ]
