-- A changed byte makes a sum wrong.
use Prim.Native.Nat.{ℕ, zero, suc, ◌+◌, ◌%◌, ◌≤◌, ◌<◌}
use mathlib.Core.Path.{◌≡◌, sym, ap, ◌∙◌}
use mathlib.Core.Bool.{true, false}
use mathlib.Core.List.{List, [], ◌∷◌}
use mathlib.Core.Logic.{◌≢◌}
use native.Mathlib.Omega.{arith}
use lib.ListN.{length, get_or, take, set}
use lib.Seq.{get_or-take, get_or-set_same, get_or-set_other, take-set-le, take-set-lt, length-take-le}
use Rattle.diagram.proofs.Tests.{by_test, by-eq}
use Rattle.writing.proofs.Laws.{by_le}
use Rattle.blocks.specs.Block.{Bytes, two, total, weighted, sums_right, block_bytes, summed, byte_span, pair_span}
use Rattle.blocks.proofs.Testing.{Sums, sums_of}

total_set : (s : List ℕ) (k b : ℕ) → k < length s → total (set s k b) + get_or s k 0 ≡ total s + b
unfolding total
total_set [] k b h = absurd (omega arith)
total_set (a ∷ s) zero b h = omega arith
total_set (a ∷ s) (suc k) b h = omega (arith, total_set s k b (omega arith))

-- Numbers that are nearer than two bytes hold are equal where what two bytes keep of them is.
mod_apart : (m n a b : ℕ) → a < byte_span → b < byte_span → n + a ≡ m + b → n % pair_span ≡ m % pair_span → b ≡ a
mod_apart m n a b ha hb e g = omega arith

module _ (s : List ℕ) (small : Bytes s) (long : length s ≡ block_bytes) (k b : ℕ) (within : k < block_bytes) (byte : b < byte_span) (other : b ≢ get_or s k 0) where
  changed_at : (at : ℕ) → k ≡ at → get_or (set s k b) at 0 ≢ get_or s at 0
  changed_at at q e =
      let here : get_or (set s k b) k 0 ≡ b = get_or-set_same s k b 0 (omega arith) in
      other (sym here ∙ ap (λ (j : ℕ). get_or (set s k b) j 0) q ∙ e ∙ ap (λ (j : ℕ). get_or s j 0) (sym q))

  elsewhere : (at : ℕ) → at ≢ k → get_or (set s k b) at 0 ≡ get_or s at 0
  elsewhere at ne = get_or-set_other s k at b 0 ne

  two_same : (at : ℕ) → at ≢ k → at + 1 ≢ k → two (set s k b) at ≡ two s at
  two_same at ne ne' = rw (elsewhere at ne, elsewhere (at + 1) ne')

  -- A number in two bytes changes with either of them.
  two_changes : (at : ℕ) → at ≤ k → k ≤ at + 1 → two (set s k b) at ≢ two s at
  two_changes at l u e =
      by-eq k at
      (λ q. changed_at at q (omega (arith, elsewhere (at + 1) (λ z. omega arith))))
      (λ n. changed_at (at + 1) (omega arith) (omega (arith, elsewhere at (λ z. omega arith))))

  module _ (was : Sums s) (still : Sums (set s k b)) where
    -- The sum of the bytes before the sums changes, by less than two bytes hold.
    in_front : k < summed → ⊥
    in_front h =
        let t : take summed (set s k b) ≡ set (take summed s) k b = take-set-lt summed s k b h in
        let old : get_or (take summed s) k 0 ≡ get_or s k 0 = get_or-take summed s k 0 h in
        let sum : total (set (take summed s) k b) + get_or (take summed s) k 0 ≡ total (take summed s) + b = total_set (take summed s) k b (omega (arith, length-take-le summed s (omega arith))) in
        let e : two (set s k b) summed ≡ two s summed = two_same summed (λ z. omega arith) (λ z. omega arith) in
        let f : two (set s k b) summed ≡ total (set (take summed s) k b) % pair_span = rw t at still.first in
        let g : total (set (take summed s) k b) % pair_span ≡ total (take summed s) % pair_span = sym f ∙ e ∙ was.first in
        other (mod_apart (total (take summed s)) (total (set (take summed s) k b)) (get_or s k 0) b (small k) byte (omega arith) g)

    -- Else the bytes before the sums are as they were, and one of the sums is not.
    same_front : summed ≤ k → take summed (set s k b) ≡ take summed s
    same_front h = take-set-le summed s k b h

    in_first : summed ≤ k → k < summed + 2 → ⊥
    in_first h l = two_changes summed h (omega arith) (still.first ∙ ap (λ (f : List ℕ). total f % pair_span) (same_front h) ∙ sym was.first)

    in_second : summed + 2 ≤ k → ⊥
    in_second h = two_changes (summed + 2) h (omega arith) (still.second ∙ ap (λ (f : List ℕ). weighted 1 f % pair_span) (same_front (omega arith)) ∙ sym was.second)

    not_still : ⊥
    not_still = by_le (suc k) summed in_front (λ h. by_le (summed + 2) k in_second (in_first (omega arith)))

  pub damaged : sums_right s ≡ true → sums_right (set s k b) ≡ false
  damaged was = by_test (sums_right (set s k b)) (λ still. absurd (not_still (sums_of s was) (sums_of (set s k b) still))) (λ e. e)
