-- A block that is taken is the block that would be written for its nodes.
use Prim.Native.Nat.{ℕ, zero, suc, ◌+◌, ◌-◌, ◌*◌, ◌/◌, ◌%◌, ◌≤◌, ◌<◌}
use mathlib.Core.Path.{◌≡◌, refl, sym, ap, ◌∙◌}
use mathlib.Core.Bool.{true}
use mathlib.Core.List.{List, [], ◌∷◌, ◌++◌, append_assoc}
use native.Mathlib.Omega.{arith}
use lib.ListN.{length, get_or, take, drop, replicate, length-append, length-drop, take-append-drop}
use lib.Seq.{take_at, drop-drop, length-take-le}
use Rattle.writing.proofs.Laws.{drop_next}
use Rattle.diagram.specs.Diagram.{var_of}
use Rattle.blocks.specs.Block.{Bytes, two, four, two_bytes, four_bytes, nodes_bytes, node_at, nodes_at, nodes_in, total, weighted, front, sealed, block_of, sums_right, block_bytes, block_nodes, summed, byte_span, pair_span}
use Rattle.blocks.proofs.Testing.{Taken, Counted, counted, sums_of}
use Rattle.blocks.proofs.Answering.{nodes_at_length}
use Rattle.blocks.proofs.Front.{front_length}

low_byte : (a b : ℕ) → a < byte_span → (a + byte_span * b) % byte_span ≡ a
low_byte a b h = omega arith

high_byte : (a b : ℕ) → a < byte_span → b < byte_span → (a + byte_span * b) / byte_span % byte_span ≡ b
high_byte a b h k = let q : (a + byte_span * b) / byte_span ≡ b = omega arith in rw q (omega arith)

low_half : (m t : ℕ) → (m + pair_span * t) % byte_span ≡ m % byte_span
low_half m t = omega arith

next_half : (m t : ℕ) → (m + pair_span * t) / byte_span % byte_span ≡ m / byte_span % byte_span
next_half m t =
    let q : (m + pair_span * t) / byte_span ≡ m / byte_span + byte_span * t = omega arith in
    rw q (low_rest (m / byte_span) t)
  where
    low_rest : (a b : ℕ) → (a + byte_span * b) % byte_span ≡ a % byte_span
    low_rest a b = omega arith

high_half : (m t : ℕ) → m < pair_span → (m + pair_span * t) / pair_span ≡ t
high_half m t h = omega arith

-- ---- a stretch of bytes, field by field

module _ (s : List ℕ) (small : Bytes s) where
  split_two : (at : ℕ) → at + 1 < length s → drop at s ≡ two_bytes (two s at) ++ drop (at + 2) s
  split_two at h =
      let a : two s at % byte_span ≡ get_or s at 0 = low_byte (get_or s at 0) (get_or s (at + 1) 0) (small at) in
      let b : two s at / byte_span % byte_span ≡ get_or s (at + 1) 0 = high_byte (get_or s at 0) (get_or s (at + 1) 0) (small at) (small (at + 1)) in
      let e : at + 1 + 1 ≡ at + 2 = omega arith in
      rw (a, b) (drop_next s at (omega arith) ∙ ap (λ (l : List ℕ). get_or s at 0 ∷ l) (drop_next s (at + 1) h ∙ rw e))

  pub split_four : (at : ℕ) → at + 3 < length s → drop at s ≡ four_bytes (four s at) ++ drop (at + 4) s
  split_four at h =
      let m : two s at < pair_span = omega (arith, small at, small (at + 1)) in
      let a : four s at % byte_span ≡ two s at % byte_span = low_half (two s at) (two s (at + 2)) in
      let b : four s at / byte_span % byte_span ≡ two s at / byte_span % byte_span = next_half (two s at) (two s (at + 2)) in
      let d : four s at / pair_span ≡ two s (at + 2) = high_half (two s at) (two s (at + 2)) m in
      let e : at + 2 + 2 ≡ at + 4 = omega arith in
      rw (a, b, d) (split_two at (omega arith) ∙ ap (λ (l : List ℕ). two_bytes (two s at) ++ l) (split_two (at + 2) (omega arith) ∙ rw e))

  split_node : (at : ℕ) → at + 9 < length s → drop at s ≡ nodes_bytes (node_at s at) ++ drop (at + 10) s
  unfolding nodes_bytes
  split_node at h =
      let e : at + 2 + 4 ≡ at + 6 = omega arith in
      let f : at + 6 + 4 ≡ at + 10 = omega arith in
      split_two at (omega arith)
      ∙ ap (λ (l : List ℕ). two_bytes (two s at) ++ l)
      (split_four (at + 2) (omega arith)
      ∙ ap (λ (l : List ℕ). four_bytes (four s (at + 2)) ++ l) (rw e (split_four (at + 6) (omega arith) ∙ rw f)))

  pub split_nodes : (at c : ℕ) → at + 10 * c ≤ length s → drop at s ≡ nodes_bytes (nodes_at s at c) ++ drop (at + 10 * c) s
  unfolding nodes_at nodes_bytes
  split_nodes at zero h = let e : at + 10 * 0 ≡ at = omega arith in ap (λ (k : ℕ). drop k s) (sym e)
  split_nodes at (suc c) h =
      let e : at + 10 + 10 * c ≡ at + 10 * suc c = omega arith in
      split_node at (omega arith)
      ∙ ap (λ (l : List ℕ). nodes_bytes (node_at s at) ++ l) (split_nodes (at + 10) c (omega arith) ∙ rw e)

  -- Two bytes hold each variable.
  pub nodes_narrow : (at c p : ℕ) → var_of (nodes_at s at c) p < pair_span
  unfolding nodes_at
  nodes_narrow at zero p = omega arith
  nodes_narrow at (suc c) zero = omega (arith, small at, small (at + 1))
  nodes_narrow at (suc c) (suc p) = let e : 3 * suc p ≡ suc (suc (suc (3 * p))) = omega arith in rw e (nodes_narrow (at + 10) c p)

-- Bytes whose sum is zero are zeros.
no_sum : (s : List ℕ) → total s ≡ 0 → s ≡ replicate (length s) 0
unfolding total
no_sum [] e = refl
no_sum (b ∷ s) e =
    let z : b ≡ 0 = omega arith in
    let r : total s ≡ 0 = omega arith in
    rw z (ap (λ (l : List ℕ). 0 ∷ l) (no_sum s r))

pub split_zeros : (s : List ℕ) (at end : ℕ) → at ≤ end → end ≤ length s → total (take (end - at) (drop at s)) ≡ 0
    → drop at s ≡ replicate (end - at) 0 ++ drop end s
split_zeros s at end h l e =
    let n : length (take (end - at) (drop at s)) ≡ end - at = length-take-le (end - at) (drop at s) (simp length-drop (omega arith)) in
    let z : take (end - at) (drop at s) ≡ replicate (end - at) 0 = no_sum (take (end - at) (drop at s)) e ∙ rw n in
    let d : drop (end - at) (drop at s) ≡ drop end s = drop-drop (end - at) at s ∙ (let k : at + (end - at) ≡ end = omega arith in rw k) in
    sym (take-append-drop (end - at) (drop at s)) ∙ rw (z, d)

in_parts : (a b c d e r : List ℕ) → a ++ (b ++ (c ++ (d ++ (e ++ r)))) ≡ a ++ b ++ c ++ d ++ e ++ r
in_parts a b c d e r = simp append_assoc

three_parts : (a b c r : List ℕ) → a ++ (b ++ (c ++ r)) ≡ a ++ b ++ c ++ r
three_parts a b c r = simp append_assoc

-- Two bytes are all that is kept of a sum.
two_bytes_mod : (x : ℕ) → two_bytes (x % pair_span) ≡ two_bytes x
two_bytes_mod x =
    let a : x % pair_span % byte_span ≡ x % byte_span = omega arith in
    let q : x / byte_span ≡ x % pair_span / byte_span + byte_span * (x / pair_span) = omega arith in
    let l : x % pair_span / byte_span < byte_span = omega arith in
    let b : x % pair_span / byte_span ≡ x / byte_span % byte_span = sym (rw q (low_byte (x % pair_span / byte_span) (x / pair_span) l)) in
    let d : x / byte_span % byte_span % byte_span ≡ x / byte_span % byte_span = omega arith in
    rw (a, b, d)

-- Right sums are those that a block is sealed with.
pub block_sealed : (s : List ℕ) → Bytes s → block_bytes ≤ length s → sums_right s ≡ true → take block_bytes s ≡ sealed (take summed s)
block_sealed s small long right =
    let f = take summed s in
    let q = sums_of s right in
    let t1 : drop summed s ≡ two_bytes (two s summed) ++ drop (summed + 2) s = split_two s small summed (omega arith) in
    let t2 : drop (summed + 2) s ≡ two_bytes (two s (summed + 2)) ++ drop block_bytes s = split_two s small (summed + 2) (omega arith) in
    let m1 : two_bytes (two s summed) ≡ two_bytes (total f) = ap two_bytes q.first ∙ two_bytes_mod (total f) in
    let m2 : two_bytes (two s (summed + 2)) ≡ two_bytes (weighted 1 f) = ap two_bytes q.second ∙ two_bytes_mod (weighted 1 f) in
    let e : s ≡ sealed f ++ drop block_bytes s =
    sym (take-append-drop summed s) ∙ ap (λ (r : List ℕ). f ++ r) (t1 ∙ ap (λ (r : List ℕ). two_bytes (two s summed) ++ r) t2
    ∙ ap (λ (r : List ℕ). r ++ (two_bytes (two s (summed + 2)) ++ drop block_bytes s)) m1 ∙ ap (λ (r : List ℕ). two_bytes (total f) ++ (r ++ drop block_bytes s)) m2)
    ∙ three_parts f (two_bytes (total f)) (two_bytes (weighted 1 f)) (drop block_bytes s) in
    ap (take block_bytes) e
    ∙ take_at (sealed f) (drop block_bytes s) block_bytes (simp length-append (omega (arith, length-take-le summed s (omega arith))))

-- ---- a block that is taken

module _ (s : List ℕ) (small : Bytes s) {number stated lent n : ℕ} (a : Taken s number stated lent n) where
  counts_of : Counted s number stated
  counts_of = counted s number stated a.counts

  held_most : two s 2 ≤ block_nodes
  held_most = omega (arith, counts_of.held)

  pub nodes_in_lem : length (nodes_in s) ≡ 3 * two s 2
  nodes_in_lem = nodes_at_length s 4 (two s 2)

  front_is : s ≡ front n number (nodes_in s) ++ drop 508 s
  unfolding front
  front_is =
      let h : length (nodes_in s) / 3 ≡ two s 2 = omega (arith, nodes_in_lem) in
      let z : 504 - (4 + 10 * two s 2) ≡ 500 - 10 * two s 2 = omega arith in
      let zeros : drop (4 + 10 * two s 2) s ≡ replicate (500 - 10 * two s 2) 0 ++ drop 504 s =
      rw z at (split_zeros s (4 + 10 * two s 2) 504 (omega (arith, held_most)) (omega (arith, a.long)) a.rest) in
      let t0 : s ≡ two_bytes number ++ drop 2 s = rw counts_of.numbered at (split_two s small 0 (omega (arith, a.long))) in
      let t1 : drop 2 s ≡ two_bytes (two s 2) ++ drop 4 s = split_two s small 2 (omega (arith, a.long)) in
      let t2 : drop 4 s ≡ nodes_bytes (nodes_in s) ++ drop (4 + 10 * two s 2) s = split_nodes s small 4 (two s 2) (omega (arith, held_most, a.long)) in
      let t3 : drop 504 s ≡ four_bytes n ++ drop 508 s = rw a.count at (split_four s small 504 (omega (arith, a.long))) in
      t0 ∙ rw (h, t1, t2, zeros, t3) (in_parts (two_bytes number) (two_bytes (two s 2)) (nodes_bytes (nodes_in s)) (replicate (500 - 10 * two s 2) 0) (four_bytes n) (drop 508 s))

  pub block_is : take block_bytes s ≡ block_of n number (nodes_in s)
  unfolding block_of
  block_is =
      let l : length (front n number (nodes_in s)) ≡ summed = front_length n number (nodes_in s) (omega (arith, nodes_in_lem, held_most)) in
      let f : take summed s ≡ front n number (nodes_in s) = ap (take summed) front_is ∙ take_at (front n number (nodes_in s)) (drop summed s) summed l in
      block_sealed s small a.long a.sums ∙ ap sealed f
