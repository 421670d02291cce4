-- The words of a target in bytes, and lengths of what is written.
use Prim.Native.Nat.{ℕ, zero, suc, ◌+◌, ◌*◌, ◌≤◌, ◌<◌, ◌^◌}
use mathlib.Core.Path.{◌≡◌, refl, sym, ap, ◌∙◌}
use mathlib.Core.List.{List, [], ◌∷◌, ◌++◌}
use native.Mathlib.Omega.{arith}
use lib.ListN.{length, get_or, drop, length-append, length-replicate}
use Rattle.blocks.specs.Block.{Bytes, four, four_bytes, block_bytes, summed}
use Rattle.blocks.proofs.Meaning.{split_four}
use Rattle.blocks.proofs.Written.{at_next, four_is}
use Rattle.setting_blocks.specs.Settings.{target_words, words_bytes, words_at, front, block_of}
use Rattle.setting_blocks.specs.declared.setting.Setting.{Setting}

-- ---- lengths

pub words_length : (w : List ℕ) → length (words_bytes w) ≡ 4 * length w
unfolding words_bytes
words_length [] = refl
words_length (a ∷ w) = omega (arith, words_length w)

pub front_length : (version : ℕ) (x : Setting) → length x.target ≡ target_words → length (front version x) ≡ summed
unfolding front
front_length version x count = simp (length-append, length-replicate) (omega (arith, words_length x.target))

pub block_length : (version : ℕ) (x : Setting) → length x.target ≡ target_words → length (block_of version x) ≡ block_bytes
unfolding block_of
block_length version x count = simp length-append (omega (arith, front_length version x count))

-- ---- words read from bytes

pub words_at_length : (s : List ℕ) (at c : ℕ) → length (words_at s at c) ≡ c
unfolding words_at
words_at_length s at zero = refl
words_at_length s at (suc c) = omega (arith, words_at_length s (at + 4) c)

module _ (s : List ℕ) (small : Bytes s) where
  -- Four bytes are below 2 ^ 32.
  pub words_at_small : (at c k : ℕ) → get_or (words_at s at c) k 0 < 2 ^ 32
  unfolding words_at
  words_at_small at zero k = omega arith
  words_at_small at (suc c) zero = omega (arith, small at, small (at + 1), small (at + 2), small (at + 2 + 1))
  words_at_small at (suc c) (suc k) = words_at_small (at + 4) c k

  pub split_words : (at c : ℕ) → at + 4 * c ≤ length s → drop at s ≡ words_bytes (words_at s at c) ++ drop (at + 4 * c) s
  unfolding words_at words_bytes
  split_words at zero h = let e : at + 4 * 0 ≡ at = omega arith in ap (λ (k : ℕ). drop k s) (sym e)
  split_words at (suc c) h =
      let e : at + 4 + 4 * c ≡ at + 4 * suc c = omega arith in
      split_four s small at (omega arith)
      ∙ ap (λ (l : List ℕ). four_bytes (four s at) ++ l) (split_words (at + 4) c (omega arith) ∙ rw e)

-- Words that were written come back.
pub words_back : (s w r : List ℕ) (at c : ℕ) → ((k : ℕ) → get_or w k 0 < 2 ^ 32) → length w ≡ c → drop at s ≡ words_bytes w ++ r → words_at s at c ≡ w
unfolding words_at words_bytes
words_back s [] r at zero small l e = refl
words_back s [] r at (suc c) small l e = absurd (omega arith)
words_back s (a ∷ w) r at zero small l e = absurd (omega arith)
words_back s (a ∷ w) r at (suc c) small l e =
    let x : four s at ≡ a = four_is s at a (small 0) e in
    let u : words_at s (at + 4) c ≡ w = words_back s w r (at + 4) c (λ k. small (suc k)) (omega arith) (at_next s at 4 (four_bytes a) e refl) in
    rw (x, u)
