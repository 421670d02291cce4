-- A store is a list of nodes in which a place is a pointer. Its words; look-up in it; stores that grow at the end.
use Prim.Native.Nat.{ℕ, zero, suc, ◌+◌, ◌*◌, ◌≤◌, ◌<◌}
use mathlib.Core.Path.{◌≡◌, refl, sym, ap, ◌∙◌}
use mathlib.Core.Logic.{◌≢◌}
use mathlib.Core.Bool.{true, false, and-false}
use mathlib.Core.List.{List, [], ◌∷◌, ◌++◌, append_assoc, append-nil}
use native.Mathlib.Omega.{arith}
use native.Mathlib.Decide.{ℕ_discrete}
use lib.ListN.{length, take, length-append, get_or-append}
use lib.Seq.{get_or-append_seam, take-nil}
use borrow.Author.Tests.{eq-eqb, ne_eqb}
use Rattle.diagram.specs.Diagram.{var_of, low_of, high_of, size}
use Rattle.store.specs.Store.{Node, node, words, same, find}
use Rattle.store.specs.Build.{at}

-- ---- words

pub length_words : (o : List Node) → length (words o) ≡ 3 * length o
unfolding words
length_words [] = refl
length_words (n ∷ o) = let e = length_words o in omega arith

pub size_words : (o : List Node) → size (words o) ≡ length o
size_words o = let e = length_words o in omega arith

three : (p k : ℕ) → 3 * suc p + k ≡ suc (suc (suc (3 * p + k)))
three p k = omega arith

three_zero : (p : ℕ) → 3 * suc p ≡ suc (suc (suc (3 * p)))
three_zero p = omega arith

pub var_words : (o : List Node) (p : ℕ) → var_of (words o) p ≡ (at o p).var
unfolding words
var_words [] p = refl
var_words (n ∷ o) zero = refl
var_words (n ∷ o) (suc p) = rw (three_zero p) (var_words o p)

pub low_words : (o : List Node) (p : ℕ) → low_of (words o) p ≡ (at o p).low
unfolding words
low_words [] p = refl
low_words (n ∷ o) zero = refl
low_words (n ∷ o) (suc p) = rw (three p 1) (low_words o p)

pub high_words : (o : List Node) (p : ℕ) → high_of (words o) p ≡ (at o p).high
unfolding words
high_words [] p = refl
high_words (n ∷ o) zero = refl
high_words (n ∷ o) (suc p) = rw (three p 2) (high_words o p)

pub words_take : (k : ℕ) (o : List Node) → words (take k o) ≡ take (3 * k) (words o)
unfolding words
words_take zero o = refl
words_take (suc k) [] = sym (take-nil (3 * suc k))
words_take (suc k) (n ∷ o) = rw (three_zero k) (ap (λ (s : List ℕ). n.var ∷ n.low ∷ n.high ∷ s) (words_take k o))

-- ---- look-up

pub node_path : (a b : Node) → a.var ≡ b.var → a.low ≡ b.low → a.high ≡ b.high → a ≡ b
node_path a b p q r = λ i. record { var = p i; low = q i; high = r i }

pub same_yes : (a b : Node) → a ≡ b → same a b ≡ true
unfolding same
same_yes a b e = simp (
  eq-eqb a.var b.var (ap (λ (n : Node). n.var) e),
  eq-eqb a.low b.low (ap (λ (n : Node). n.low) e),
  eq-eqb a.high b.high (ap (λ (n : Node). n.high) e),
)

pub same_no : (a b : Node) → a ≢ b → same a b ≡ false
unfolding same
same_no a b ne = elim (ℕ_discrete a.var b.var) [
  | no x ↦ simp (ne_eqb a.var b.var x)
  | yes x ↦ elim (ℕ_discrete a.low b.low) [
    | no y ↦ simp (ne_eqb a.low b.low y, and-false)
    | yes y ↦ elim (ℕ_discrete a.high b.high) [
      | no z ↦ simp (ne_eqb a.high b.high z, and-false)
      | yes z ↦ absurd (ne (node_path a b x y z))
    ]
  ]
]

pub node_discrete : (a b : Node) → Dec (a ≡ b)
node_discrete a b = elim (ℕ_discrete a.var b.var) [
  | no x ↦ no (λ e. x (ap (λ (n : Node). n.var) e))
  | yes x ↦ elim (ℕ_discrete a.low b.low) [
    | no y ↦ no (λ e. y (ap (λ (n : Node). n.low) e))
    | yes y ↦ elim (ℕ_discrete a.high b.high) [
      | no z ↦ no (λ e. z (ap (λ (n : Node). n.high) e))
      | yes z ↦ yes (node_path a b x y z)
    ]
  ]
]

pub find_here : (n m : Node) (o : List Node) → n ≡ m → find n (m ∷ o) ≡ 0
unfolding find
find_here n m o e = simp (same_yes n m e)

pub find_later : (n m : Node) (o : List Node) → n ≢ m → find n (m ∷ o) ≡ suc (find n o)
unfolding find
find_later n m o ne = simp (same_no n m ne)

pub find_most : (n : Node) (o : List Node) → find n o ≤ length o
unfolding find
find_most n [] = omega arith
find_most n (m ∷ o) = elim (node_discrete n m) [
  | yes e ↦ let l = find_here n m o e in omega arith
  | no ne ↦ let l = find_later n m o ne in let most = find_most n o in omega arith
]

-- What stands at the place that was found.
pub find_at : (n : Node) (o : List Node) → find n o < length o → at o (find n o) ≡ n
find_at n [] h = absurd (omega arith)
find_at n (m ∷ o) h = elim (node_discrete n m) [
  | yes e ↦ rw (find_here n m o e) (sym e)
  | no ne ↦ rw (find_later n m o ne) (find_at n o (let l = find_later n m o ne in omega arith))
]

-- What is there is found at the same place after the store has grown; what isn't is found at its end.
pub find_grown : (n : Node) (o r : List Node) → find n o < length o → find n (o ++ r) ≡ find n o
find_grown n [] r h = absurd (omega arith)
find_grown n (m ∷ o) r h = elim (node_discrete n m) [
  | yes e ↦ find_here n m (o ++ r) e ∙ sym (find_here n m o e)
  | no ne ↦ find_later n m (o ++ r) ne ∙ ap suc (find_grown n o r (let l = find_later n m o ne in omega arith)) ∙ sym (find_later n m o ne)
]

pub find_new : (n : Node) (o r : List Node) → find n o ≡ length o → find n (o ++ n ∷ r) ≡ length o
find_new n [] r h = find_here n n r refl
find_new n (m ∷ o) r h = elim (node_discrete n m) [
  | yes e ↦ absurd (let l = find_here n m o e in omega arith)
  | no ne ↦ find_later n m (o ++ n ∷ r) ne ∙ ap suc (find_new n o r (let l = find_later n m o ne in omega arith))
]

-- ---- stores that grow at the end

pub record Extends (o o' : List Node) : Type 0 where
  pub more : List Node
  pub is : o' ≡ o ++ more

pub extends_refl : (o : List Node) → Extends o o
extends_refl o = record { more = []; is = sym (append-nil o) }

pub extends_trans : {a b c : List Node} → Extends a b → Extends b c → Extends a c
extends_trans {a} {b} {c} x y = record {
  more = x.more ++ y.more;
  is = y.is ∙ ap (λ (o : List Node). o ++ y.more) x.is ∙ append_assoc a x.more y.more;
}

pub extends_add : (o : List Node) (n : Node) → Extends o (o ++ (n ∷ []))
extends_add o n = record { more = n ∷ []; is = refl }

pub extends_length : {o o' : List Node} → Extends o o' → length o ≤ length o'
extends_length {o} {o'} x = let e = ap length x.is ∙ length-append o x.more in omega arith

pub extends_at : {o o' : List Node} → Extends o o' → (p : ℕ) → p < length o → at o' p ≡ at o p
extends_at {o} x p h = ap (λ (s : List Node). at s p) x.is ∙ get_or-append o x.more (node 0 0 0) p h

pub extends_find : {o o' : List Node} → Extends o o' → (n : Node) → find n o < length o → find n o' ≡ find n o
extends_find {o} x n h = ap (find n) x.is ∙ find_grown n o x.more h

pub length_add : (o : List Node) (n : Node) → length (o ++ (n ∷ [])) ≡ suc (length o)
length_add o n = length-append o (n ∷ []) ∙ omega arith

pub at_new : (o : List Node) (n : Node) → at (o ++ (n ∷ [])) (length o) ≡ n
at_new o n = get_or-append_seam o n [] (node 0 0 0)
