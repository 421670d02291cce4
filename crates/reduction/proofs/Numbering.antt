-- What is built is numbered on the way back, low branch first.
use Prim.Native.Nat.{ℕ, zero, suc, ◌+◌, ◌≤◌, ◌<◌}
use mathlib.Core.Path.{◌≡◌, refl, sym, ap, ◌∙◌, subst}
use mathlib.Core.Logic.{◌⊎◌, inl, inr, ⊎_elim}
use mathlib.Core.Bool.{Bool, true, false, cond}
use mathlib.Core.List.{List, [], ◌∷◌, ◌++◌}
use native.Mathlib.Omega.{arith}
use lib.ListN.{length}
use Rattle.diagram.specs.Diagram.{low_of, high_of}
use Rattle.store.specs.Store.{Node, node, words, find, Built, built, join, half, canon}
use Rattle.reduction.specs.Demand3.{Numbering, there, after}
use Rattle.store.specs.Build.{at, Sound}
use Rattle.store.proofs.Store.{low_words, high_words, find_at, Extends, extends_trans, extends_at, length_add, at_new}
use Rattle.store.proofs.Canon.{by_join, join_extends, canon_zero, lower, upper, canon_suc, canon_extends}
use Rattle.store.proofs.Sound.{Means, canon_means}
use Rattle.reduction.proofs.Reached.{two_at}

-- Numbers are only given out: none at a node that has one, and else the node's is the last.
pub numbers_grow : {w : List ℕ} {a p b : ℕ} → Numbering w a p b → a ≤ b
numbers_grow (there h) = omega arith
numbers_grow (after l h) = let x = numbers_grow l in let y = numbers_grow h in omega arith

pub numbers_last : {w : List ℕ} {a p b : ℕ} → Numbering w a p b → ((p < a) × (b ≡ a)) ⊎ ((a ≤ p) × (suc p ≡ b))
numbers_last (there h) = inl (h, refl)
numbers_last (after l h) = inr (let x = numbers_grow l in let y = numbers_grow h in omega arith, refl)

pub numbers_in_lem : {w : List ℕ} {a p b : ℕ} → Numbering w a p b → p < b
numbers_in_lem n = ⊎_elim (λ x. omega arith) (λ x. omega arith) (numbers_last n)

module _ (v : ℕ) (o : List Node) (s : Sound v o) (i l h : ℕ) (i-in : i < v) (g : List Node) (a b : ℕ)
    (low : Numbering (words g) a l b) (high : Numbering (words g) b h (length o)) where
  abbrev Numbers : Built → Type 0
  Numbers r = Extends r.store g → Numbering (words g) a r.pointer (length r.store)

  -- where the second child has its number, the first child's walk was all
  join_equal : l ≡ h → Numbers (built o l)
  join_equal e x =
      let inside = numbers_in_lem low in
      let same : b ≡ length o = ⊎_elim (λ y. omega arith) (λ y. absurd (omega arith)) (numbers_last high) in
      subst (Numbering (words g) a l) same low

  -- a node that is there stands after its children, so no number was given out for them
  join_there : find (node i l h) o < length o → Numbers (built o (find (node i l h) o))
  join_there t x =
      let here = find_at (node i l h) o t in
      let Under-low = ap (λ (n : Node). n.low) here in
      let under-high = ap (λ (n : Node). n.high) here in
      let c = s.each (find (node i l h) o) (two_at v o s i l h (find (node i l h) o) i-in here) t in
      let second : b ≡ length o = ⊎_elim (λ y. omega arith) (λ y. absurd (omega arith)) (numbers_last high) in
      let first : a ≡ b = ⊎_elim (λ y. omega arith) (λ y. absurd (omega arith)) (numbers_last low) in
      subst (Numbering (words g) a (find (node i l h) o)) (first ∙ second) (there (omega arith))

  -- a new one gets the next number
  join_new : Numbers (built (o ++ (node i l h ∷ [])) (length o))
  join_new x =
      let long = length_add o (node i l h) in
      let same = extends_at x (length o) (omega arith) ∙ at_new o (node i l h) in
      let is-low : l ≡ low_of (words g) (length o) = sym (low_words g (length o) ∙ ap (λ (n : Node). n.low) same) in
      let is-high : h ≡ high_of (words g) (length o) = sym (high_words g (length o) ∙ ap (λ (n : Node). n.high) same) in
      subst (Numbering (words g) a (length o)) (sym long)
      (after (subst (λ (p : ℕ). Numbering (words g) a p b) is-low low) (subst (λ (p : ℕ). Numbering (words g) b p (length o)) is-high high))

  join_numbers : Numbers (join i l h o)
  join_numbers = by_join Numbers i l h o join_equal (λ ne. join_there) (λ ne new. join_new)

-- In a store that has grown since, what building has added to o is numbered from o's length on.
pub canon_numbers : (v k i : ℕ) (f : List Bool → Bool) (o : List Node) → Sound v o → i + k ≡ v → (g : List Node) → Extends (canon k i f o).store g
    → Numbering (words g) (length o) (canon k i f o).pointer (length (canon k i f o).store)
canon_numbers v zero i f o s left g x = rw (canon_zero i f o) (there (terminal (f [])))
  where
    terminal : (b : Bool) → cond b 1 0 < length o
    terminal true = let n = s.enough in omega arith
    terminal false = let n = s.enough in omega arith
canon_numbers v (suc k) i f o s left g x =
    let low : Built = lower k i f o in
    let high : Built = upper k i f o in
    let l : Means v k (suc i) (half false f) low = canon_means v k (suc i) (half false f) o s (omega arith) in
    let h : Means v k (suc i) (half true f) high = canon_means v k (suc i) (half true f) low.store l.sound (omega arith) in
    let all : Extends (join i low.pointer high.pointer high.store).store g = rw (canon_suc k i f o) at x in
    let past-high : Extends high.store g = extends_trans (join_extends i low.pointer high.pointer high.store) all in
    let past-low : Extends low.store g = extends_trans (canon_extends k (suc i) (half true f) low.store) past-high in
    let first = canon_numbers v k (suc i) (half false f) o s (omega arith) g past-low in
    let second = canon_numbers v k (suc i) (half true f) low.store l.sound (omega arith) g past-high in
    rw (canon_suc k i f o)
    (join_numbers v high.store h.sound i low.pointer high.pointer (omega arith) g (length o) (length low.store) first second all)
