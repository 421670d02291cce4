-- A row gone through bit by bit.
use Prim.Native.Nat.{ℕ, ◌+◌, ◌≤◌, ◌<◌}
use mathlib.Core.Path.{◌≡◌, refl, sym}
use mathlib.Core.Bool.{Bool, true, false}
use mathlib.Core.List.{List, [], ◌∷◌, ◌++◌}
use mathlib.Core.Logic.{◌≢◌}
use native.Mathlib.Omega.{arith}
use native.Mathlib.Numerals.{add-one}
use lib.ListN.{length, take, drop, replicate, get_or, length-replicate}
use lib.Seq.{length-take-le}
use borrow.Author.Tests.{eq-eqb, ne_eqb}
use Rattle.diagram.specs.Limits.{max_variables}
use Rattle.text.specs.Digits.{spell}
use Rattle.writing.specs.Writing.{Wrote}
use Rattle.writing.proofs.Laws.{wrote_none, wrote_then, drop_next, drop_none}
use Rattle.differ_texts.specs.Texts.{row_text, signal, signals, any_on, difference_text}

module _ (row : List ℕ) (i : ℕ) where
  pub signals_next : i < length row → signals i (drop i row) ≡ signal i (get_or row i 0) ++ signals (i + 1) (drop (i + 1) row)
  unfolding signals
  signals_next h = rw (drop_next row i h, add-one i) refl

  pub signals_none : length row ≤ i → signals i (drop i row) ≡ []
  unfolding signals
  signals_none h = rw (drop_none row i h) refl

  pub on_here : i < length row → get_or row i 0 ≡ 49 → any_on (drop i row) ≡ true
  unfolding any_on
  on_here h e = rw (drop_next row i h, eq-eqb (get_or row i 0) 49 e) refl

  pub on_next : i < length row → get_or row i 0 ≢ 49 → any_on (drop (i + 1) row) ≡ any_on (drop i row)
  unfolding any_on
  on_next h e = rw (drop_next row i h, ne_eqb (get_or row i 0) 49 e) refl

  pub on_none : length row ≤ i → any_on (drop i row) ≡ false
  unfolding any_on
  on_none h = rw (drop_none row i h) refl

-- A row stands behind a blank where it has a bit.
pub row_none : (row out : List ℕ) (at : ℕ) → length row ≡ 0 → Wrote (row_text row) out at out at
unfolding row_text
row_none [] out at e = wrote_none out at
row_none (c ∷ t) out at e = absurd (omega arith)

pub row_some : (row : List ℕ) {out mid left : List ℕ} {at place end : ℕ} → length row ≢ 0 → Wrote (32 ∷ []) out at mid place → Wrote row mid place left end
    → Wrote (row_text row) out at left end
unfolding row_text
row_some [] n a b = absurd (n refl)
row_some (c ∷ t) n a b = wrote_then a b

-- A row of so many bits, behind the counts.
pub row_behind : {counts : List ℕ} (differs : Bool) (n : ℕ) {k v : ℕ} {out mid left : List ℕ} {place end : ℕ} → k ≡ v → Wrote counts out 0 mid place
    → Wrote (difference_text differs (spell 2 n k)) mid place left end → Wrote (counts ++ difference_text differs (spell 2 n v)) out 0 left end
row_behind differs n e a b = wrote_then a (rw e at b)

pub zeros_long : (k : ℕ) → k ≤ max_variables → k ≡ length (take k (replicate {A = ℕ} max_variables 0))
zeros_long k h = sym (length-take-le k (replicate max_variables 0) (rw (length-replicate {A = ℕ} max_variables 0) h))
