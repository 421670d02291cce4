-- What follows a block changes nothing of its reading.
use Prim.Native.Nat.{ℕ, zero, suc, ◌+◌, ◌-◌, ◌*◌, ◌≤◌, ◌<◌}
use mathlib.Core.Path.{◌≡◌, refl, sym, ap, ◌∙◌}
use mathlib.Core.List.{List, [], ◌∷◌}
use native.Mathlib.Omega.{arith}
use lib.ListN.{length, get_or, take, drop, length-take}
use lib.Seq.{get_or-take, take-take}
use lib.Dec.{ltb}
use borrow.Author.Tests.{lt-ltb, le-ltb}
use Rattle.writing.proofs.Laws.{by_le}
use Rattle.blocks.specs.Block.{two, four, nodes_at, unused, sums_right, counts_right, Outcome, nodes, refused, block_outcome, block_output, block_bytes, block_nodes}
use Rattle.blocks.proofs.Testing.{is_taken, held_few}

pub drop_of_take : (a k : ℕ) (l : List ℕ) → drop a (take (a + k) l) ≡ take k (drop a l)
drop_of_take zero k l = let e : 0 + k ≡ k = omega arith in rw e
drop_of_take (suc a) k [] = let e : suc a + k ≡ suc (a + k) = omega arith in rw e (drop_none a k)
  where
    drop_none : (a k : ℕ) → [] ≡ take k (drop {A = ℕ} (suc a) [])
    drop_none a zero = refl
    drop_none a (suc k) = refl
drop_of_take (suc a) k (x ∷ l) = let e : suc a + k ≡ suc (a + k) = omega arith in rw e (drop_of_take a k l)

stretch_same : (m : ℕ) (s : List ℕ) (a k : ℕ) → a + k ≤ m → take k (drop a (take m s)) ≡ take k (drop a s)
stretch_same m s a k h =
    let e : a + (m - a) ≡ m = omega arith in
    ap (λ (n : ℕ). take k (drop a (take n s))) (sym e) ∙ ap (take k) (drop_of_take a (m - a) s) ∙ take-take k (m - a) (drop a s) (omega arith)

module _ (s : List ℕ) (m : ℕ) (enough : block_bytes ≤ m) where
  at_same : (k : ℕ) → k < block_bytes → get_or (take m s) k 0 ≡ get_or s k 0
  at_same k h = get_or-take m s k 0 (omega arith)

  two_same : (at : ℕ) → at + 1 < block_bytes → two (take m s) at ≡ two s at
  two_same at h = rw (at_same at (omega arith), at_same (at + 1) h)

  four_same : (at : ℕ) → at + 3 < block_bytes → four (take m s) at ≡ four s at
  four_same at h =
      let a : two (take m s) at ≡ two s at = two_same at (omega arith) in
      let b : two (take m s) (at + 2) ≡ two s (at + 2) = two_same (at + 2) (omega arith) in
      omega arith

  short_same : ltb (length (take m s)) block_bytes ≡ ltb (length s) block_bytes
  short_same =
      by_le block_bytes (length s)
      (λ h. le-ltb (length (take m s)) block_bytes (simp length-take (omega arith)) ∙ sym (le-ltb (length s) block_bytes h))
      (λ h. lt-ltb (length (take m s)) block_bytes (simp length-take (omega arith)) ∙ sym (lt-ltb (length s) block_bytes h))

  unused_same : (held : ℕ) → unused (take m s) held ≡ unused s held
  unused_same held =
      by_le (4 + 10 * held) 504
      (λ h. stretch_same m s (4 + 10 * held) (504 - (4 + 10 * held)) (omega arith))
      (λ h. let z : 504 - (4 + 10 * held) ≡ 0 = omega arith in rw z)

  sums_same : sums_right (take m s) ≡ sums_right s
  unfolding sums_right
  sums_same =
      let a : two (take m s) 508 ≡ two s 508 = two_same 508 (omega arith) in
      let b : two (take m s) 510 ≡ two s 510 = two_same 510 (omega arith) in
      let t : take 508 (take m s) ≡ take 508 s = take-take 508 m s (omega arith) in
      rw (a, b, t)

  counts_same : (number stated : ℕ) → counts_right number stated (take m s) ≡ counts_right number stated s
  unfolding counts_right
  counts_same number stated =
      let a : two (take m s) 0 ≡ two s 0 = two_same 0 (omega arith) in
      let b : two (take m s) 2 ≡ two s 2 = two_same 2 (omega arith) in
      let d : four (take m s) 504 ≡ four s 504 = four_same 504 (omega arith) in
      rw (a, b, d)

  pub outcome_same : (number stated lent : ℕ) → block_outcome number stated (take m s) lent ≡ block_outcome number stated s lent
  unfolding block_outcome
  outcome_same number stated lent =
      let b : two (take m s) 2 ≡ two s 2 = two_same 2 (omega arith) in
      let d : four (take m s) 504 ≡ four s 504 = four_same 504 (omega arith) in
      rw (short_same, sums_same, counts_same number stated, d, b, unused_same (two s 2))

  nodes_same : (at c : ℕ) → at + 10 * c ≤ block_bytes → nodes_at (take m s) at c ≡ nodes_at s at c
  unfolding nodes_at
  nodes_same at zero h = refl
  nodes_same at (suc c) h =
      let a : two (take m s) at ≡ two s at = two_same at (omega arith) in
      let b : four (take m s) (at + 2) ≡ four s (at + 2) = four_same (at + 2) (omega arith) in
      let d : four (take m s) (at + 6) ≡ four s (at + 6) = four_same (at + 6) (omega arith) in
      rw (a, b, d, nodes_same (at + 10) c (omega arith))

  pub output_same : (number stated : ℕ) (out : List ℕ) (o : Outcome) → block_outcome number stated s (length out) ≡ o
      → block_output number (take m s) out o ≡ block_output number s out o
  unfolding block_output
  output_same number stated out (refused k p) e = refl
  output_same number stated out (nodes n) e =
      let t = is_taken s number stated (length out) n e in
      let few : two s 2 ≤ block_nodes = held_few s number stated t.counts in
      let b : two (take m s) 2 ≡ two s 2 = two_same 2 (omega arith) in
      rw (b, nodes_same 4 (two s 2) (omega arith))
