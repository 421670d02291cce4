-- Writing one thing after another is writing them together.
use Prim.Native.Nat.{ℕ, suc, ◌-◌, ◌+◌, ◌≤◌, ◌<◌}
use mathlib.Core.Path.{◌≡◌, refl, sym, ap, ◌∙◌}
use mathlib.Core.List.{List, [], ◌∷◌, ◌++◌}
use mathlib.Core.Bool.{Bool, true, false}
use mathlib.Core.Logic.{◌⊎◌, inl, inr, ⊎_elim}
use native.Mathlib.Omega.{arith}
use native.Mathlib.Numerals.{add-one}
use lib.ListN.{length, take, drop, get_or, set, replicate, length-append, drop_of_length-le}
use lib.Dec.{leb}
use borrow.Author.Tests.{leb-true, leb-false}
use lib.Seq.{sets, sets-eq, length-sets, set_out, drop-cons}
use Rattle.writing.specs.Writing.{past, Wrote}

-- By cases on an order of two numbers.
by-leb {ℓ} : {C : Type ℓ} (a b : ℕ) (t : Bool) → leb a b ≡ t → (a ≤ b → C) → (b < a → C) → C
by-leb a b true e f g = f (leb-true a b e)
by-leb a b false e f g = g (leb-false a b e)

pub by_le {ℓ} : {C : Type ℓ} (a b : ℕ) → (a ≤ b → C) → (b < a → C) → C
by_le a b f g = by-leb a b (leb a b) refl f g

-- Past the end nothing is stored.
sets_out : {A : Type 0} → (t l : List A) (at : ℕ) → length l ≤ at → sets l at t ≡ l
sets_out [] l at h = refl
sets_out (a ∷ t) l at h = rw set_out (sets_out t l (suc at) (omega arith))

sets_append : {A : Type 0} → (s t l : List A) (at : ℕ) → sets l at (s ++ t) ≡ sets (sets l at s) (at + length s) t
sets_append [] t l at = let e : at + 0 ≡ at = omega arith in rw e
sets_append (a ∷ s) t l at =
    let e : at + suc (length s) ≡ suc at + length s = omega arith in
    rw e (sets_append s t (set l at a) (suc at))

past_none : (A : Type 0) (n at : ℕ) → past {A = A} n at [] ≡ at
unfolding past
past_none A n at = omega arith

past_append : {A : Type 0} → (n at : ℕ) (s t : List A) → past n at (s ++ t) ≡ past n (past n at s) t
unfolding past
past_append n at s t = rw length-append (omega arith)

-- Where the second part starts: right after the first, or past the end.
past_where : {A : Type 0} → (n at : ℕ) (s : List A) → (past n at s ≡ at + length s) ⊎ ((n ≤ past n at s) × (n ≤ at + length s))
unfolding past
past_where n at s = by_le n (at + length s) (λ h. inr (omega arith)) (λ h. inl (omega arith))

sets_past : {A : Type 0} → (s t l : List A) (at : ℕ) → sets l at (s ++ t) ≡ sets (sets l at s) (past (length l) at s) t
sets_past s t l at =
    sets_append s t l at
    ∙ ⊎_elim
    (λ e. ap (λ (k : ℕ). sets (sets l at s) k t) (sym e))
    (λ h. sets_out t (sets l at s) (at + length s) (rw length-sets h.1) ∙ sym (sets_out t (sets l at s) (past (length l) at s) (rw length-sets h.0)))
    (past_where (length l) at s)

-- ---- writings one after another

pub wrote_none : {A : Type 0} → (out : List A) (at : ℕ) → Wrote [] out at out at
wrote_none {A} out at = record { left = refl; ends = sym (past_none A (length out) at) }

pub wrote_length : {A : Type 0} → {t before after : List A} {at place : ℕ} → Wrote t before at after place → length after ≡ length before
wrote_length {t} {before} {after} {at} w = ap length w.left ∙ length-sets before at t

pub wrote_then : {A : Type 0} → {s t before mid after : List A} {at place end : ℕ} → Wrote s before at mid place → Wrote t mid place after end → Wrote (s ++ t) before at after end
wrote_then {s} {t} {before} {mid} {after} {at} {place} {end} a b =
    record {
      left = b.left ∙ rw (a.left, a.ends) (sym (sets_past s t before at));
      ends = b.ends ∙ rw (wrote_length a, a.ends) (sym (past_append (length before) at s t));
    }

-- Where all of it fits.
module _ {A : Type 0} {t before after : List A} {at place : ℕ} (w : Wrote t before at after place) (fits : at + length t ≤ length before) where
  pub wrote_fits : after ≡ take at before ++ t ++ drop (at + length t) before
  wrote_fits = w.left ∙ sets-eq t before at fits

  pub wrote_place : place ≡ at + length t
  unfolding past
  wrote_place = w.ends ∙ omega arith

-- One element, as the code stores it.
pub wrote_one : {A : Type 0} → (out : List A) (at : ℕ) (x : A) → at < length out → Wrote (x ∷ []) out at (set out at x) (at + 1)
unfolding past
wrote_one out at x h = record { left = refl; ends = omega arith }

pub wrote_out : {A : Type 0} → (out : List A) (at : ℕ) (x : A) → length out ≤ at → Wrote (x ∷ []) out at out at
unfolding past
wrote_out out at x h = record { left = sym (set_out out at x h); ends = omega arith }

-- ---- a loop that writes: `rest` is what is still to be written

pub record Still {A : Type 0} (whole before : List A) (at : ℕ) (rest now : List A) (place : ℕ) : Type 0 where
  pub size : length now ≡ length before
  pub left : sets before at whole ≡ sets now place rest
  pub ends : past (length before) at whole ≡ past (length before) place rest

pub still_begins : {A : Type 0} → (whole out : List A) (at : ℕ) → Still whole out at whole out at
still_begins whole out at = record { size = refl; left = refl; ends = refl }

pub still_goes_on : {A : Type 0} → {whole before now after : List A} {at place end : ℕ} (s rest : List A) → Still whole before at (s ++ rest) now place
    → Wrote s now place after end → Still whole before at rest after end
still_goes_on {whole} {before} {now} {after} {at} {place} {end} s rest a w =
    record {
      size = wrote_length w ∙ a.size;
      left = a.left ∙ sets_past s rest now place ∙ rw (w.left, w.ends);
      ends = a.ends ∙ past_append (length before) place s rest ∙ rw (w.ends, a.size);
    }

pub still_ends : {A : Type 0} → {whole before after : List A} {at place : ℕ} → Still whole before at [] after place → Wrote whole before at after place
still_ends {A} {whole} {before} {after} {at} {place} a = record { left = sym a.left; ends = sym (past_none A (length before) place) ∙ sym a.ends }

-- By what is left: a part and more, one element and more, or none.
module _ {A : Type 0} {whole before now : List A} {at place : ℕ} {rest : List A} (a : Still whole before at rest now place) where
  pub still_part : {after : List A} {end : ℕ} (s more : List A) → rest ≡ s ++ more → Wrote s now place after end → Still whole before at more after end
  still_part {after} {end} s more e w = still_goes_on s more (rw e at a) w

  pub still_next : {after : List A} {end : ℕ} {x : A} {more : List A} → rest ≡ x ∷ more → Wrote (x ∷ []) now place after end → Still whole before at more after end
  still_next {after} {end} {x} {more} e w = still_part (x ∷ []) more e w

  pub still_none : rest ≡ [] → Wrote whole before at now place
  still_none e = still_ends (rw e at a)

pub drop_next : (text : List ℕ) (i : ℕ) → i < length text → drop i text ≡ get_or text i 0 ∷ drop (i + 1) text
drop_next text i h = rw (add-one, drop-cons text i 0)

pub drop_none : {A : Type 0} → (text : List A) (i : ℕ) → length text ≤ i → drop i text ≡ []
drop_none text i h = drop_of_length-le text h

-- The zeros that are left once i of n were written.
pub zeros_next : (n i : ℕ) → i < n → replicate {A = ℕ} (n - i) 0 ≡ 0 ∷ replicate (n - (i + 1)) 0
zeros_next n i h = let e : n - i ≡ suc (n - (i + 1)) = omega arith in rw e

pub zeros_none : (n i : ℕ) → n ≤ i → replicate {A = ℕ} (n - i) 0 ≡ []
zeros_none n i h = let e : n - i ≡ 0 = omega arith in rw e
