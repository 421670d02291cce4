-- Nodes in bytes, as a loop reads and writes them.
use Prim.Native.Nat.{ℕ, suc, ◌+◌, ◌-◌, ◌*◌, ◌≤◌, ◌<◌}
use mathlib.Core.Path.{◌≡◌, refl, ap, ◌∙◌}
use mathlib.Core.List.{List, [], ◌∷◌, ◌++◌}
use native.Mathlib.Omega.{arith}
use lib.ListN.{length, drop, get_or, set, length-drop, length-set}
use Rattle.writing.specs.Writing.{Wrote}
use Rattle.writing.proofs.Laws.{wrote_then, wrote_one, drop_next}
use Rattle.blocks.specs.Block.{two, four, node_at, nodes_at, node_bytes, nodes_bytes}

-- Two bytes where there is a place for both.
pub wrote_two : (out : List ℕ) (at a b : ℕ) → at + 1 < length out → Wrote (a ∷ b ∷ []) out at (set (set out at a) (at + 1) b) (at + 2)
wrote_two out at a b h =
    let e : at + 1 + 1 ≡ at + 2 = omega arith in
    let l : at + 1 < length (set out at a) = simp length-set h in
    rw e at (wrote_then (wrote_one out at a (omega arith)) (wrote_one (set out at a) (at + 1) b l))

-- Three words, each read before it is written.
pub wrote_node : (s : List ℕ) (from : ℕ) {a b d : ℕ} {out₀ out₁ out₂ out₃ : List ℕ} {p₀ p₁ p₂ p₃ : ℕ}
    → a ≡ two s from → b ≡ four s (from + 2) → d ≡ four s (from + 6)
    → Wrote (a ∷ []) out₀ p₀ out₁ p₁ → Wrote (b ∷ []) out₁ p₁ out₂ p₂ → Wrote (d ∷ []) out₂ p₂ out₃ p₃
    → Wrote (node_at s from) out₀ p₀ out₃ p₃
wrote_node s from e f g x y z =
    let t = wrote_then x (wrote_then y z) in
    rw (e, f, g) at t

-- What is left once i of some nodes were read.
pub nodes_next : (s : List ℕ) (from count i : ℕ) → i < count
    → nodes_at s (from + 10 * i) (count - i) ≡ node_at s (from + 10 * i) ++ nodes_at s (from + 10 * (i + 1)) (count - (i + 1))
unfolding nodes_at
nodes_next s from count i h =
    let e : count - i ≡ suc (count - (i + 1)) = omega arith in
    let f : from + 10 * i + 10 ≡ from + 10 * (i + 1) = omega arith in
    rw e (ap (λ (k : ℕ). node_at s (from + 10 * i) ++ nodes_at s k (count - (i + 1))) f)

pub nodes_none : (s : List ℕ) (from count i : ℕ) → count ≤ i → nodes_at s from (count - i) ≡ []
unfolding nodes_at
nodes_none s from count i h = let e : count - i ≡ 0 = omega arith in rw e

three : (w : List ℕ) (i : ℕ) → i + 2 < length w
    → drop i w ≡ get_or w i 0 ∷ get_or w (i + 1) 0 ∷ get_or w (i + 2) 0 ∷ drop (i + 3) w
three w i h =
    let e : i + 1 + 1 ≡ i + 2 = omega arith in
    let f : i + 2 + 1 ≡ i + 3 = omega arith in
    drop_next w i (omega arith)
    ∙ ap (λ (l : List ℕ). get_or w i 0 ∷ l)
    (drop_next w (i + 1) (omega arith)
    ∙ rw e (ap (λ (l : List ℕ). get_or w (i + 1) 0 ∷ l) (drop_next w (i + 2) h ∙ rw f)))

pub bytes_next : (w : List ℕ) (i : ℕ) → 3 * i + 2 < length w
    → nodes_bytes (drop (3 * i) w) ≡ node_bytes (get_or w (3 * i) 0) (get_or w (3 * i + 1) 0) (get_or w (3 * i + 2) 0) ++ nodes_bytes (drop (3 * (i + 1)) w)
unfolding nodes_bytes
bytes_next w i h = let e : 3 * i + 3 ≡ 3 * (i + 1) = omega arith in rw (three w (3 * i) h, e)

few_none : (w : List ℕ) → length w ≤ 2 → nodes_bytes w ≡ []
unfolding nodes_bytes
few_none [] h = refl
few_none (a ∷ []) h = refl
few_none (a ∷ b ∷ []) h = refl
few_none (a ∷ b ∷ d ∷ w) h = absurd (omega arith)

pub bytes_none : (w : List ℕ) (i : ℕ) → length w ≤ i + 2 → nodes_bytes (drop i w) ≡ []
bytes_none w i h = few_none (drop i w) (simp length-drop (omega arith))
