-- The test `reaches` of the verdict says `Reach`: as many links as there are nodes reach all that can be reached, since
-- each further link that reaches anything new reaches one node more.
use Prim.Native.Nat.{ℕ, zero, suc, ◌+◌, ◌-◌, ◌≤◌, ◌<◌}
use mathlib.Core.Path.{◌≡◌, refl, sym, subst}
use mathlib.Core.Bool.{true, ◌&&◌, ◌||◌}
use mathlib.Core.List.{List}
use mathlib.Core.Logic.{◌⊎◌, inl, inr, ⊎_elim}
use native.Mathlib.Omega.{arith}
use borrow.Author.Tests.{le-leb, leb-true, eq-eqb, eqb-true}
use lib.Dec.{leb, eqb}
use Rattle.diagram.specs.Diagram.{low_of, high_of, size, root, Reach, start, by_low, by_high, Formed}
use Rattle.diagram.specs.Verdict.{any, is_child, reached_in, reaches}
use Rattle.diagram.specs.Marking.{count}
use Rattle.diagram.proofs.Tests.{or_left, or_right, or_cases, and_both, both_and}
use Rattle.diagram.proofs.Count.{count_most, count_some, count_grows, any_intro, any_elim}

module _ (w : List ℕ) where
  child_low : (q : ℕ) → 2 ≤ q → is_child w q (low_of w q) ≡ true
  unfolding is_child
  child_low q h =
      both_and (leb 2 q) _ (le-leb 2 q h) (or_left (eqb (low_of w q) (low_of w q)) _ (eq-eqb (low_of w q) (low_of w q) refl))

  child_high : (q : ℕ) → 2 ≤ q → is_child w q (high_of w q) ≡ true
  unfolding is_child
  child_high q h =
      both_and (leb 2 q) _ (le-leb 2 q h) (or_right (eqb (low_of w q) (high_of w q)) _ (eq-eqb (high_of w q) (high_of w q) refl))

  child_reach : (q p : ℕ) → is_child w q p ≡ true → Reach w (root w) q → Reach w (root w) p
  unfolding is_child
  child_reach q p e r =
      let b = and_both (leb 2 q) (eqb (low_of w q) p || eqb (high_of w q) p) e in
      let h = leb-true 2 q b.0 in
      or_cases (eqb (low_of w q) p) (eqb (high_of w q) p) b.1
      (λ a. subst (λ (x : ℕ). Reach w (root w) x) (eqb-true (low_of w q) p a) (by_low r h))
      (λ a. subst (λ (x : ℕ). Reach w (root w) x) (eqb-true (high_of w q) p a) (by_high r h))

  sound : (k p : ℕ) → reached_in w k p ≡ true → Reach w (root w) p
  unfolding reached_in
  sound zero p e = subst (λ (x : ℕ). Reach w (root w) x) (sym (eqb-true p (root w) e)) start
  sound (suc k) p e =
      or_cases (reached_in w k p) (any (size w) (λ q. reached_in w k q && is_child w q p)) e
      (λ a. sound k p a)
      (λ a.
      let r = any_elim (size w) (λ q. reached_in w k q && is_child w q p) a in
      let b = and_both (reached_in w k r.0) (is_child w r.0 p) r.2 in
      child_reach r.0 p b.1 (sound k r.0 b.0))

  pub reaches_sound : (p : ℕ) → reaches w p ≡ true → Reach w (root w) p
  unfolding reaches
  reaches_sound p e = sound (size w) p e

  more : (k p : ℕ) → reached_in w k p ≡ true → reached_in w (suc k) p ≡ true
  unfolding reached_in
  more k p e = or_left (reached_in w k p) _ e

  further : (k j p : ℕ) → reached_in w k p ≡ true → reached_in w (j + k) p ≡ true
  further k zero p e = subst (λ (x : ℕ). reached_in w x p ≡ true) (omega arith) e
  further k (suc j) p e = subst (λ (x : ℕ). reached_in w x p ≡ true) (omega arith) (more (j + k) p (further k j p e))

  next : (k q p : ℕ) → q < size w → reached_in w k q ≡ true → is_child w q p ≡ true → reached_in w (suc k) p ≡ true
  unfolding reached_in
  next k q p l e c =
      or_right (reached_in w k p) _
      (any_intro (size w) (λ x. reached_in w k x && is_child w x p) q l (both_and (reached_in w k q) (is_child w q p) e c))

  -- nothing new is reached by one link more
  Closed : ℕ → Type 0
  Closed k = (p : ℕ) → p < size w → reached_in w (suc k) p ≡ true → reached_in w k p ≡ true

  first_in : (k : ℕ) → reached_in w k (root w) ≡ true
  unfolding reached_in
  first_in zero = eq-eqb (root w) (root w) refl
  first_in (suc k) = more k (root w) (first_in k)

  module _ (formed : Formed w) where
    closed_all : (k : ℕ) → Closed k → {p : ℕ} → Reach w (root w) p → (p < size w) × (reached_in w k p ≡ true)
    unfolding Closed
    closed_all k c start = (omega (arith, formed.some), first_in k)
    closed_all k c (by_low {p = q} r h) =
        let i = closed_all k c r in
        let l = (formed.ranges q h i.0).low in
        (l, c (low_of w q) l (next k q (low_of w q) i.0 i.1 (child_low q h)))
    closed_all k c (by_high {p = q} r h) =
        let i = closed_all k c r in
        let l = (formed.ranges q h i.0).high in
        (l, c (high_of w q) l (next k q (high_of w q) i.0 i.1 (child_high q h)))

    -- within k links: either some fewer are enough, or over k nodes are reached
    grows : (k : ℕ) → ((j : ℕ) × (j ≤ k) × Closed j) ⊎ (k < count (size w) (reached_in w k))
    unfolding Closed
    grows zero = inr (count_some (size w) (reached_in w zero) (root w) (omega (arith, formed.some)) (first_in zero))
    grows (suc k) =
        ⊎_elim
        (λ c. inl (c.0, omega (arith, c.1), c.2))
        (λ m.
        ⊎_elim
        (λ c. inl (k, omega arith, c))
        (λ l. inr (omega (arith, m, l)))
        (count_grows (size w) (reached_in w k) (reached_in w (suc k)) (λ p l e. more k p e)))
        (grows k)

    enough : (p : ℕ) → Reach w (root w) p → ((j : ℕ) × (j ≤ size w) × Closed j) ⊎ (size w < count (size w) (reached_in w (size w)))
        → reached_in w (size w) p ≡ true
    enough p r (inl c) =
        subst (λ (x : ℕ). reached_in w x p ≡ true) (omega (arith, c.1)) (further c.0 (size w - c.0) p (closed_all c.0 c.2 r).1)
    enough p r (inr m) = absurd (omega (arith, count_most (size w) (reached_in w (size w))))

    pub reaches_complete : (p : ℕ) → Reach w (root w) p → reaches w p ≡ true
    unfolding reaches
    reaches_complete p r = enough p r (grows (size w))
