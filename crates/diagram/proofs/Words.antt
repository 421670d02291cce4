-- Laws on the words of a slice that a loop has passed.
use Prim.Native.Nat.{ℕ, ◌≤◌, min}
use mathlib.Core.Path.{◌≡◌, sym, ◌∙◌, ap}
use mathlib.Core.List.{List, ◌++◌, append-nil}
use native.Mathlib.Omega.{arith}
use native.Mathlib.Decide.{dec_le}
use lib.Seq.{drop-length, length-take-le}
use lib.ListN.{length, take, drop, replicate, drop_of_length-le}

-- after the words below the smaller of `count` and the length have been written, all below `count` have
pub cleared_all : (r s : List ℕ) (count i : ℕ) → i ≡ min count (length s) → r ≡ replicate i 0 ++ drop i s
    → r ≡ replicate (min count (length s)) 0 ++ drop count s
cleared_all r s count i e h = h ∙ ap (λ (k : ℕ). replicate k 0 ++ drop i s) e ∙ ap (λ (l : List ℕ). replicate (min count (length s)) 0 ++ l) (same (dec_le count (length s)))
  where
    same : Dec (count ≤ length s) → drop i s ≡ drop count s
    same (yes d) = let e' : i ≡ count = omega arith in ap (λ (k : ℕ). drop k s) e'
    same (no d) = drop_of_length-le s {i = i} (omega arith) ∙ sym (drop_of_length-le s {i = count} (omega arith))

-- all the words are cleared, where the length is what it was
pub zeros_whole : (r s : List ℕ) → length r ≡ length s → replicate (min (length r) (length r)) 0 ++ drop (length r) r ≡ replicate (length s) 0
zeros_whole r s e =
    let m : min (length r) (length r) ≡ length s = omega arith in
    rw (m, drop-length r) (append-nil (replicate (length s) 0))

-- a front part that was lent comes back cleared
pub front_cleared : (s : List ℕ) (all : ℕ) (part : List ℕ) → all ≤ length s → part ≡ replicate (length (take all s)) 0
    → part ++ drop all s ≡ replicate all 0 ++ drop all s
front_cleared s all part l e = ap (λ (x : List ℕ). x ++ drop all s) (e ∙ ap (λ (k : ℕ). replicate k 0) (length-take-le all s l))
