-- Words in bytes, as loops read and write them.
use Prim.Native.Nat.{ℕ, suc, ◌+◌, ◌-◌, ◌*◌, ◌≤◌, ◌<◌}
use mathlib.Core.Path.{◌≡◌, ap, ◌∙◌}
use mathlib.Core.List.{List, [], ◌∷◌, ◌++◌, append-nil}
use native.Mathlib.Omega.{arith}
use lib.ListN.{length, drop, get_or, drop_of_length-le}
use mir.Syntax.{w32}
use mir.Val.{Val}
use denote.Plain.{UInt}
use denote.Array.{Array}
use denote.Laws.{Is}
use Rattle.naturals.proofs.Machine.{Typed, typed}
use Rattle.writing.specs.Writing.{Wrote}
use Rattle.writing.proofs.Laws.{wrote_fits, drop_next, drop_none}
use Rattle.blocks.specs.Block.{four, four_bytes}
use Rattle.setting_blocks.specs.Settings.{words_at, words_bytes}

-- What the words of an array are by their type, where it is passed by itself.
pub words_typed : (xs : List ℕ) {n : ℕ} {vs : List Val} → Is (Array (UInt w32) n) xs vs → Typed n xs
words_typed xs g = typed xs g.0 g.1.0.1 g.1.1

-- What is written over all of a slice is what it then is.
pub wrote_all : {t before after : List ℕ} {place : ℕ} → length t ≡ length before → Wrote t before 0 after place → after ≡ t
wrote_all {t} {before} e w =
    wrote_fits w (omega arith)
    ∙ rw (drop_of_length-le before {i = 0 + length t} (omega arith)) (append-nil t)

-- ---- reading

-- What is left once i of some words were read.
module _ (s : List ℕ) where
  pub words_next : (first count i : ℕ) {a : ℕ} → i < count → a ≡ four s (first + 4 * i)
      → words_at s (first + 4 * i) (count - i) ≡ a ∷ words_at s (first + 4 * (i + 1)) (count - (i + 1))
  unfolding words_at
  words_next first count i h e =
      let k : count - i ≡ suc (count - (i + 1)) = omega arith in
      let f : first + 4 * i + 4 ≡ first + 4 * (i + 1) = omega arith in
      rw (k, e) (ap (λ (at : ℕ). four s (first + 4 * i) ∷ words_at s at (count - (i + 1))) f)

  pub words_none : (first count i : ℕ) → count ≤ i → words_at s first (count - i) ≡ []
  unfolding words_at
  words_none first count i h = let e : count - i ≡ 0 = omega arith in rw e

-- ---- writing

pub bytes_next : (w : List ℕ) (i : ℕ) → i < length w → words_bytes (drop i w) ≡ four_bytes (get_or w i 0) ++ words_bytes (drop (i + 1) w)
unfolding words_bytes
bytes_next w i h = rw (drop_next w i h)

pub bytes_none : (w : List ℕ) (i : ℕ) → length w ≤ i → words_bytes (drop i w) ≡ []
unfolding words_bytes
bytes_none w i h = rw (drop_none w i h)
