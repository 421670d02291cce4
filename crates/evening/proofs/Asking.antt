-- What words ask for can be stored, and what is stored can be asked for by words: both have the same bounds for numbers.
use Prim.Native.Nat.{ℕ, ◌<◌, ◌^◌}
use mathlib.Core.Path.{◌≡◌, refl, ◌∙◌}
use mathlib.Core.Bool.{Bool, true, false, cond, not, ◌&&◌}
use mathlib.Core.List.{List}
use native.Mathlib.Omega.{arith}
use lib.Dec.{ltb, eqb}
use borrow.Author.Tests.{lt-ltb, ltb-true, eq-eqb, ne_eqb}
use Rattle.naturals.specs.Natural.{value, limit}
use Rattle.diagram.proofs.Tests.{by-eq, and_both}
use Rattle.writing.specs.Writing.{bytes}
use Rattle.text.specs.Digits.{decimal, Reading, number, none, parsed}
use Rattle.text.proofs.Numerals.{decimal_exactly, natural_exactly, hexadecimal_exactly}
use Rattle.request.specs.Request.{alike, Aim, nodes, cases, Meaning, help, unknown, which, cut, if_number, aimed, directed, request_of}
use Rattle.setting_blocks.specs.Settings.{flag_span, fits, right, newest, kept, read_by}
use Rattle.setting_blocks.specs.declared.setting.Setting.{Setting}
use Rattle.setting_blocks.proofs.Testing.{is_read}
use Rattle.evening.specs.Words.{aim_in, kind_of, number_of, meaning_of}
use Rattle.evening.specs.Storing.{direction_word, kind_word}

-- What is true of both is true of the one that is chosen.
pub either {ℓ} : {A : Type ℓ} (P : A → Type 0) (b : Bool) {x y : A} → P x → P y → P (cond b x y)
either P true p q = p
either P false p q = q

-- ---- words ask for nothing that can't be stored

-- A setting has a place for the number.
abbrev pub storable : Aim → Bool
storable aim = fits (kind_of aim) (number_of aim)

-- Only a cut has a number.
abbrev pub holdable : Meaning → Bool
holdable help = true
holdable unknown = true
holdable which = true
holdable (cut keep as_is aim) = storable aim

-- The numbers that are read are below the bounds of their kinds.
pub size_storable : (t : ℕ) → t < 2 ^ 32 → storable (nodes t) ≡ true
unfolding fits
size_storable t h = lt-ltb t (2 ^ 32) h

pub count_storable : (k : ℕ) → k < limit → storable (cases k) ≡ true
unfolding fits
count_storable k h = lt-ltb k limit h

module _ (keep as_is : Bool) where
  number_holdable : (aim : ℕ → Aim) (r : Reading) → ((n : ℕ) → r ≡ number n → storable (aim n) ≡ true) → holdable (if_number keep as_is aim r) ≡ true
  number_holdable aim (number n) h = h n refl
  number_holdable aim none h = refl

  aimed_holdable : (kind text : List ℕ) → holdable (aimed keep as_is kind text) ≡ true
  unfolding aimed
  aimed_holdable kind text =
      let P : Meaning → Type 0 = λ m. holdable m ≡ true in
      either P (alike kind (bytes "size")) (number_holdable nodes (parsed 10 (2 ^ 32) text) (λ n e. size_storable n (decimal_exactly.only text n e).1))
      (either P (alike kind (bytes "cases")) (number_holdable cases (parsed 10 limit text) (λ n e. count_storable n (natural_exactly.only text n e).1))
      (either P (alike kind (bytes "hex")) (number_holdable cases (parsed 16 limit text) (λ n e. count_storable n (hexadecimal_exactly.only text n e).1))
      (either P (alike kind (bytes "count")) refl
      refl)))

directed_holdable : (as_is : Bool) (direction kind text : List ℕ) → holdable (directed as_is direction kind text) ≡ true
unfolding directed
directed_holdable as_is direction kind text =
    let P : Meaning → Type 0 = λ m. holdable m ≡ true in
    either P (alike direction (bytes "keep")) (aimed_holdable true as_is kind text)
    (either P (alike direction (bytes "suppress")) (aimed_holdable false as_is kind text)
    refl)

pub asked_holdable : (count : ℕ) (direction kind text flag : List ℕ) → holdable (request_of count direction kind text flag) ≡ true
unfolding request_of
asked_holdable count direction kind text flag =
    let P : Meaning → Type 0 = λ m. holdable m ≡ true in
    either P (eqb count 0) refl
    (either P (eqb count 3) (directed_holdable false direction kind text)
    (either P (not (eqb count 4)) refl
    (either P (alike flag (bytes "as-is")) (directed_holdable true direction kind text)
    refl)))

-- ---- words ask for all that can be stored

module _ (keep as_is : Bool) where
  asks_aim : (aim : Aim) → storable aim ≡ true → aimed keep as_is (kind_word aim) (decimal (number_of aim)) ≡ cut keep as_is aim
  unfolding aimed alike fits
  asks_aim (nodes t) h = rw (decimal_exactly.back t (ltb-true t (2 ^ 32) h)) refl
  asks_aim (cases k) h = rw (natural_exactly.back k (ltb-true k limit h)) refl

asks_direction : (keep as_is : Bool) (kind text : List ℕ) → directed as_is (direction_word keep) kind text ≡ aimed keep as_is kind text
unfolding directed alike
asks_direction true as_is kind text = refl
asks_direction false as_is kind text = refl

asks_flag : (as_is : Bool) (direction kind text : List ℕ) → request_of (cond as_is 4 3) direction kind text (bytes "as-is") ≡ directed as_is direction kind text
unfolding request_of alike
asks_flag true direction kind text = refl
asks_flag false direction kind text = refl

asks_cut : (keep as_is : Bool) (aim : Aim) → storable aim ≡ true
    → request_of (cond as_is 4 3) (direction_word keep) (kind_word aim) (decimal (number_of aim)) (bytes "as-is") ≡ cut keep as_is aim
asks_cut keep as_is aim h =
    asks_flag as_is (direction_word keep) (kind_word aim) (decimal (number_of aim))
    ∙ asks_direction keep as_is (kind_word aim) (decimal (number_of aim))
    ∙ asks_aim keep as_is aim h

-- ---- the number of a setting that is read

pub right_target : (version : ℕ) (x : Setting) → right version x ≡ true → (x.kind < 2) × (fits x.kind (value x.target) ≡ true)
unfolding right
right_target version x e =
    let flag = ltb x.as_is (flag_span version) in
    let target = fits x.kind (value x.target) in
    let a = and_both (ltb x.direction 2) (ltb x.kind 2 && (flag && target)) e in
    let b = and_both (ltb x.kind 2) (flag && target) a.1 in
    (ltb-true x.kind 2 b.0, (and_both flag target b.1).1)

aim_storable : (x : Setting) → x.kind < 2 → fits x.kind (value x.target) ≡ true → storable (aim_in x) ≡ true
unfolding aim_in
aim_storable x low h =
    by-eq x.kind 1
    (λ e. (let f : fits 1 (value x.target) ≡ true = rw e at h in rw (eq-eqb x.kind 1 e) f))
    (λ ne. (let z : x.kind ≡ 0 = omega arith in let f : fits 0 (value x.target) ≡ true = rw z at h in rw (ne_eqb x.kind 1 ne) f))

pub shown_asks : (f : List ℕ) (version : ℕ) (x : Setting) → read_by newest f ≡ kept version x
    → request_of (cond (eqb x.as_is 1) 4 3) (direction_word (eqb x.direction 1)) (kind_word (aim_in x)) (decimal (number_of (aim_in x))) (bytes "as-is") ≡ meaning_of x
unfolding meaning_of
shown_asks f version x e =
    let t = right_target version x (is_read newest version x f e).in_range in
    asks_cut (eqb x.direction 1) (eqb x.as_is 1) (aim_in x) (aim_storable x t.0 t.1)
