-- Reading only the first bytes answers as the whole input does, where they are more than three blocks have.
use Prim.Native.Nat.{ℕ, zero, suc, ◌+◌, ◌-◌, ◌*◌, ◌≤◌, ◌<◌}
use mathlib.Core.Path.{◌≡◌, refl, sym, ap, ◌∙◌}
use mathlib.Core.List.{List}
use native.Mathlib.Omega.{arith}
use lib.ListN.{length, take, drop, length-take}
use lib.Dec.{ltb}
use borrow.Author.Tests.{lt-ltb, le-ltb}
use Rattle.writing.proofs.Laws.{by_le}
use Rattle.blocks.specs.Block.{Outcome, nodes, refused, block_outcome, block_output, block_bytes, max_stored}
use Rattle.blocks.proofs.Enough.{drop_of_take, outcome_same, output_same}
use Rattle.block_file.specs.File.{Reading, end_of, after, read_on, read_file, block_count}

module _ (s : List ℕ) (k : ℕ) where
  past_same : (a : ℕ) → a < k → ltb a (length (take k s)) ≡ ltb a (length s)
  past_same a h =
      by_le (length s) a
      (λ l. le-ltb a (length (take k s)) (simp length-take (omega arith)) ∙ sym (le-ltb a (length s) l))
      (λ l. lt-ltb a (length (take k s)) (simp length-take (omega arith)) ∙ sym (lt-ltb a (length s) l))

  end_same : (number n : ℕ) → block_bytes * number < k → end_of (length (take k s)) number n ≡ end_of (length s) number n
  unfolding end_of
  end_same number n h = rw (past_same (block_bytes * number) h)

  due_same : (number : ℕ) → block_bytes * number ≤ k → drop (block_bytes * number) (take k s) ≡ take (k - block_bytes * number) (drop (block_bytes * number) s)
  due_same number h =
      let e : block_bytes * number + (k - block_bytes * number) ≡ k = omega arith in
      ap (λ (m : ℕ). drop (block_bytes * number) (take m s)) (sym e) ∙ drop_of_take (block_bytes * number) (k - block_bytes * number) s

  after_same : (o : Outcome) (number : ℕ) (out : List ℕ) (f g : ℕ → List ℕ → Reading) → block_bytes * suc number < k
      → ((n : ℕ) (left : List ℕ) → f n left ≡ g n left) → after o number (take k s) out f ≡ after o number s out g
  after_same (refused q p) number out f g h e = refl
  after_same (nodes n) number out f g h e = rw (e n out, end_same (suc number) n h)

  on_same : (c number stated : ℕ) (out : List ℕ) → block_bytes * (c + number) < k → read_on c number stated (take k s) out ≡ read_on c number stated s out
  unfolding read_on
  on_same zero number stated out h = refl
  on_same (suc c) number stated out h =
      let d = due_same number (omega arith) in
      let o : block_outcome number stated (drop (block_bytes * number) (take k s)) (length out) ≡ block_outcome number stated (drop (block_bytes * number) s) (length out) =
      ap (λ (l : List ℕ). block_outcome number stated l (length out)) d ∙ outcome_same (drop (block_bytes * number) s) (k - block_bytes * number) (omega arith) number stated (length out) in
      let p : block_output number (drop (block_bytes * number) (take k s)) out (block_outcome number stated (drop (block_bytes * number) s) (length out))
      ≡ block_output number (drop (block_bytes * number) s) out (block_outcome number stated (drop (block_bytes * number) s) (length out)) =
      ap (λ (l : List ℕ). block_output number l out (block_outcome number stated (drop (block_bytes * number) s) (length out))) d
      ∙ output_same (drop (block_bytes * number) s) (k - block_bytes * number) (omega arith) number stated out (block_outcome number stated (drop (block_bytes * number) s) (length out)) refl in
      rw (o, p)
      (after_same (block_outcome number stated (drop (block_bytes * number) s) (length out)) number _ _ _ (omega arith) (λ n left. on_same c (suc number) n left (omega arith)))

pub front_enough : (s out : List ℕ) (k : ℕ) → block_bytes * block_count max_stored < k → read_file (take k s) out ≡ read_file s out
unfolding read_file
front_enough s out k h = on_same s k 3 0 0 out (omega arith)
