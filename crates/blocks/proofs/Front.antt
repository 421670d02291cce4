-- Lengths of what is written, and a block from its parts.
use Prim.Native.Nat.{ℕ, ◌+◌, ◌*◌, ◌/◌, ◌≤◌}
use mathlib.Core.Path.{◌≡◌, refl}
use mathlib.Core.List.{List, [], ◌∷◌}
use native.Mathlib.Omega.{arith}
use lib.ListN.{length, take, drop, length-append, length-replicate}
use lib.Seq.{take_at}
use Rattle.writing.specs.Writing.{Wrote}
use Rattle.writing.proofs.Laws.{wrote_then, wrote_fits}
use Rattle.blocks.specs.Block.{total, weighted, two_bytes, nodes_bytes, front, sealed, block_of, block_bytes, block_words}

pub nodes_length : (w : List ℕ) → length (nodes_bytes w) ≡ 10 * (length w / 3)
unfolding nodes_bytes
nodes_length [] = refl
nodes_length (a ∷ []) = refl
nodes_length (a ∷ b ∷ []) = refl
nodes_length (a ∷ b ∷ d ∷ w) = omega (arith, nodes_length w)

pub front_length : (n number : ℕ) (w : List ℕ) → length w ≤ block_words → length (front n number w) ≡ 508
unfolding front
front_length n number w h =
    simp (length-append, length-replicate) (omega (arith, nodes_length w))

pub block_length : (n number : ℕ) (w : List ℕ) → length w ≤ block_words → length (block_of n number w) ≡ block_bytes
unfolding block_of
block_length n number w h = simp length-append (omega (arith, front_length n number w h))

-- The front stands in a block of 512 bytes.
pub front_stands : (n number : ℕ) (w : List ℕ) {before after : List ℕ} {p : ℕ} → length w ≤ block_words → block_bytes ≤ length before → Wrote (front n number w) before 0 after p
    → take 508 after ≡ front n number w
front_stands n number w {before} {after} h l e =
    let f : length (front n number w) ≡ 508 = front_length n number w h in
    let r = wrote_fits e (omega arith) in
    rw r (take_at (front n number w) (drop (0 + length (front n number w)) before) 508 f)

pub wrote_sealed : {part f₀ f₁ f₂ f₃ : List ℕ} {p₀ p₁ p₂ p₃ x y : ℕ} → x ≡ total part → y ≡ weighted 1 part
    → Wrote part f₀ p₀ f₁ p₁ → Wrote (two_bytes x) f₁ p₁ f₂ p₂ → Wrote (two_bytes y) f₂ p₂ f₃ p₃ → Wrote (sealed part) f₀ p₀ f₃ p₃
wrote_sealed ex ey a b d =
    let t = wrote_then (wrote_then a b) d in
    rw (ex, ey) at t

pub wrote_block : (n number : ℕ) (w : List ℕ) {part f₀ f₁ f₂ f₃ : List ℕ} {p₀ p₁ p₂ p₃ x y : ℕ} → part ≡ front n number w
    → x ≡ total part → y ≡ weighted 1 part
    → Wrote part f₀ p₀ f₁ p₁ → Wrote (two_bytes x) f₁ p₁ f₂ p₂ → Wrote (two_bytes y) f₂ p₂ f₃ p₃ → Wrote (block_of n number w) f₀ p₀ f₃ p₃
unfolding block_of
wrote_block n number w e ex ey a b d =
    let t = wrote_then (wrote_then a b) d in
    rw (ex, ey, e) at t

pub wrote_block_sealed : (n number : ℕ) (w : List ℕ) {part f₀ f₁ : List ℕ} {p₀ p₁ : ℕ} → part ≡ front n number w → Wrote (sealed part) f₀ p₀ f₁ p₁ → Wrote (block_of n number w) f₀ p₀ f₁ p₁
unfolding block_of
wrote_block_sealed n number w e a = rw e at a
