-- What the small steps of the code give.
use Prim.Native.Nat.{ℕ, zero, suc, ◌+◌, ◌*◌, ◌≤◌, ◌<◌}
use mathlib.Core.Path.{◌≡◌, refl, sym, ap, ◌∙◌}
use mathlib.Core.Bool.{Bool, true, false, cond, not, ◌||◌}
use mathlib.Core.List.{List, [], ◌∷◌}
use native.Mathlib.Omega.{arith}
use lib.ListN.{length, get_or, set, take}
use lib.Seq.{take-length}
use lib.Dec.{ltb, eqb}
use borrow.Author.Tests.{eq-eqb, ne_eqb, ltb-true, ltb-false}
use Rattle.approximation.specs.Cut.{listed}
use Rattle.cuts.specs.Marks.{marked_in, link_from, node_at, constant_at}
use Rattle.cuts.proofs.Marking.{listed_take}
use Rattle.cuts.proofs.Sending.{link_stays, link_sent}

-- ---- marks and links

pub marked_read : (m : ℕ) (r : List ℕ) (p i x : ℕ) → i ≡ p → x ≡ get_or r (m + i) 0 → not (eqb x 0) ≡ marked_in m r p
unfolding marked_in
marked_read m r p i x e f = rw (f, e) refl

module _ (marked : ℕ → Bool) (t p q : ℕ) where
  pub terminal_stays : (b : Bool) → b ≡ ltb p 2 → b ≡ true → q ≡ link_from marked t p q
  terminal_stays b e yes-case = sym (link_stays marked t p q (ltb-true p 2 (sym e ∙ yes-case)))

  pub marked_goes : (b c : Bool) → b ≡ ltb p 2 → b ≡ false → c ≡ marked q → c ≡ true → t ≡ link_from marked t p q
  marked_goes b c e none f yes-case = sym (link_sent marked t p q (ltb-false p 2 (sym e ∙ none)) ∙ rw (sym f ∙ yes-case) refl)

  pub other_stays : (b c : Bool) → b ≡ ltb p 2 → b ≡ false → c ≡ marked q → c ≡ false → q ≡ link_from marked t p q
  other_stays b c e none f not-marked = sym (link_sent marked t p q (ltb-false p 2 (sym e ∙ none)) ∙ rw (sym f ∙ not-marked) refl)

-- ---- words that are written

pub node_written : (s : List ℕ) (p var low high i : ℕ) (a b c : List ℕ) → i ≡ p → a ≡ set s (3 * i) var → b ≡ set a (3 * i + 1) low
    → c ≡ set b (3 * i + 2) high → c ≡ node_at s p var low high
unfolding node_at
node_written s p var low high i a b c e f g h = rw (h, g, f, e) refl

module _ (r : List ℕ) (at t v : ℕ) {a b c : List ℕ} (e : a ≡ set r at v) (f : b ≡ set a (at + 1) 0) (g : c ≡ set b (at + 2) 0) where
  pub false_written : t ≡ 0 → (c ≡ constant_at r at t v) × ◌≡◌ {A = ℕ} 1 (cond (eqb t 0) 1 2)
  unfolding constant_at
  false_written z = (rw (g, f, e, eq-eqb t 0 z) refl, rw (eq-eqb t 0 z) refl)

  pub true_written : {d h k : List ℕ} → (t ≡ 0 → ⊥) → d ≡ set c (at + 3) v → h ≡ set d (at + 4) 1 → k ≡ set h (at + 5) 1
      → (k ≡ constant_at r at t v) × ◌≡◌ {A = ℕ} 2 (cond (eqb t 0) 1 2)
  unfolding constant_at
  true_written z x y w = (rw (w, y, x, g, f, e, ne_eqb t 0 z) refl, rw (ne_eqb t 0 z) refl)
