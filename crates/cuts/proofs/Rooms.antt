-- A room that is given back, and rooms that agree from a place on.
use Prim.Native.Nat.{ℕ, ◌+◌, ◌-◌, ◌≤◌, ◌<◌, min}
use mathlib.Core.Path.{◌≡◌, sym, ap, ◌∙◌}
use mathlib.Core.List.{List, ◌++◌}
use native.Mathlib.Omega.{arith}
use lib.ListN.{length, get_or, take, drop, replicate, length-replicate, get_or-replicate, take-append-drop}
use lib.Seq.{get_or-take, ext_get_or, drop-drop, length-take-le}

zero_front : (k : ℕ) (r : List ℕ) → k ≤ length r → ((j : ℕ) → j < k → get_or r j 0 ≡ 0) → take k r ≡ replicate k 0
zero_front k r h none =
    ext_get_or 0 (take k r) (replicate k 0) (length-take-le k r h ∙ sym (length-replicate {A = ℕ} k 0)) (λ j l.
    let inside : j < k = rw (length-take-le k r h) at l in
    get_or-take k r j 0 inside ∙ none j inside ∙ sym (get_or-replicate k j 0 0 inside))

-- Cleared where it was zero, and as it was beyond.
pub zeros_back : (k : ℕ) (r s : List ℕ) → k ≤ length r → ((j : ℕ) → j < k → get_or r j 0 ≡ 0) → length s ≡ length r → drop k s ≡ drop k r
    → replicate (min k (length s)) 0 ++ drop k s ≡ r
zeros_back k r s h none same rest =
    let all : min k (length s) ≡ k = omega arith in
    rw (all, rest) (ap (λ (l : List ℕ). l ++ drop k r) (sym (zero_front k r h none)) ∙ take-append-drop k r)

pub drop_more : (a b : ℕ) (s r : List ℕ) → a ≤ b → drop a s ≡ drop a r → drop b s ≡ drop b r
drop_more a b s r h e =
    let place : a + (b - a) ≡ b = omega arith in
    ap (λ (i : ℕ). drop i s) (sym place) ∙ sym (drop-drop (b - a) a s) ∙ ap (λ (l : List ℕ). drop (b - a) l) e ∙ drop-drop (b - a) a r
    ∙ ap (λ (i : ℕ). drop i r) place
