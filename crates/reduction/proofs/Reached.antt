-- What building adds is reached from the pointer that it gives, and if it adds anything that pointer is the last.
use Prim.Native.Nat.{ℕ, zero, suc, ◌+◌, ◌≤◌, ◌<◌}
use mathlib.Core.Path.{◌≡◌, sym, ap, ◌∙◌, subst}
use mathlib.Core.Logic.{◌⊎◌, inl, inr, ⊎_elim}
use mathlib.Core.Bool.{Bool, true, false}
use mathlib.Core.List.{List, [], ◌∷◌, ◌++◌}
use native.Mathlib.Omega.{arith}
use native.Mathlib.Decide.{dec_lt}
use lib.ListN.{length}
use Rattle.diagram.specs.Diagram.{low_of, high_of, Reach, by_low, by_high}
use Rattle.store.specs.Store.{Node, node, words, find, Built, built, join, half, canon}
use Rattle.store.specs.Build.{at, Sound}
use Rattle.store.proofs.Store.{low_words, high_words, find_at, Extends, extends_trans, extends_length, extends_at, length_add, at_new}
use Rattle.store.proofs.Canon.{by_join, join_extends, canon_zero, lower, upper, canon_suc, canon_extends}
use Rattle.store.proofs.Sound.{not_terminal, Means, canon_means}

-- ---- the last node

-- If building on o has added a node, the pointer is the last.
abbrev pub Last : List Node → Built → Type 0
Last o b = length o < length b.store → suc b.pointer ≡ length b.store

pub two_at : (v : ℕ) (o : List Node) → Sound v o → (i l h p : ℕ) → i < v → at o p ≡ node i l h → 2 ≤ p
two_at v o s i l h p i-in e = let var = ap (λ (n : Node). n.var) e in not_terminal v o s p (omega arith)

-- A node that is there already stands after its children; so nothing was added for them.
join_last : (v : ℕ) (a o : List Node) → Sound v o → (i l h : ℕ) → i < v → (length a < length o → (suc l ≡ length o) ⊎ (suc h ≡ length o))
    → Last a (join i l h o)
join_last v a o s i l h i-in grown = by_join (Last a) i l h o
    (λ e m. ⊎_elim (λ x. x) (λ x. omega arith) (grown m))
    (λ ne t m.
    let there = find_at (node i l h) o t in
    let low = ap (λ (n : Node). n.low) there in
    let high = ap (λ (n : Node). n.high) there in
    let c = s.each (find (node i l h) o) (two_at v o s i l h (find (node i l h) o) i-in there) t in
    ⊎_elim (λ x. absurd (omega arith)) (λ x. absurd (omega arith)) (grown m))
    (λ ne new m. sym (length_add o (node i l h)))

pub canon_last : (v k i : ℕ) (f : List Bool → Bool) (o : List Node) → Sound v o → i + k ≡ v → Last o (canon k i f o)
canon_last v zero i f o s left = rw (canon_zero i f o) (λ m. absurd (omega arith))
canon_last v (suc k) i f o s left =
    let low : Built = lower k i f o in
    let high : Built = upper k i f o in
    let l : Means v k (suc i) (half false f) low = canon_means v k (suc i) (half false f) o s (omega arith) in
    let h : Means v k (suc i) (half true f) high = canon_means v k (suc i) (half true f) low.store l.sound (omega arith) in
    let longer = extends_length (canon_extends k (suc i) (half true f) low.store) in
    let low-last : Last o low = canon_last v k (suc i) (half false f) o s (omega arith) in
    let high-last : Last low.store high = canon_last v k (suc i) (half true f) low.store l.sound (omega arith) in
    rw (canon_suc k i f o) (join_last v o high.store h.sound i low.pointer high.pointer (omega arith)
    (λ m. elim (dec_lt (length low.store) (length high.store)) [
      | yes g ↦ inr (high-last g)
      | no g ↦ inl (let e = low-last (omega arith) in omega arith)
    ]))

-- ---- reached

-- In a store that has grown, what reaches the pointer to a node reaches the node's children,
module _ (v : ℕ) (o : List Node) (s : Sound v o) (i l h : ℕ) (i-in : i < v) (g : List Node) (r : ℕ) where
  abbrev Leads : Built → Type 0
  Leads b = Extends b.store g → Reach (words g) r b.pointer → Reach (words g) r l × Reach (words g) r h

  by_links : (o' : List Node) (p : ℕ) → 2 ≤ p → p < length o' → at o' p ≡ node i l h → Leads (built o' p)
  by_links o' p two place e x q =
      let same = extends_at x p place in
      let low : low_of (words g) p ≡ l = low_words g p ∙ ap (λ (n : Node). n.low) (same ∙ e) in
      let high : high_of (words g) p ≡ h = high_words g p ∙ ap (λ (n : Node). n.high) (same ∙ e) in
      (subst (Reach (words g) r) low (by_low q two), subst (Reach (words g) r) high (by_high q two))

  join_leads : Leads (join i l h o)
  join_leads = by_join Leads i l h o
      (λ e x q. (q, subst (Reach (words g) r) e q))
      (λ ne t. by_links o (find (node i l h) o) (two_at v o s i l h (find (node i l h) o) i-in (find_at (node i l h) o t)) t (find_at (node i l h) o t))
      (λ ne new. by_links (o ++ (node i l h ∷ [])) (length o) s.enough (let e = length_add o (node i l h) in omega arith) (at_new o (node i l h)))

-- and what join adds is the pointer itself;
join_adds : (i l h : ℕ) (o : List Node) (q : ℕ) → length o ≤ q → q < length (join i l h o).store → (join i l h o).pointer ≡ q
join_adds i l h o q from = by_join (λ b. q < length b.store → b.pointer ≡ q) i l h o
    (λ e to. absurd (omega arith)) (λ ne t to. absurd (omega arith)) (λ ne new to. let e = length_add o (node i l h) in omega arith)

-- so it reaches each node that was added.
pub canon_reach : (v k i : ℕ) (f : List Bool → Bool) (o : List Node) → Sound v o → i + k ≡ v
    → (g : List Node) → Extends (canon k i f o).store g
    → (r : ℕ) → Reach (words g) r (canon k i f o).pointer
    → (q : ℕ) → length o ≤ q → q < length (canon k i f o).store → Reach (words g) r q
canon_reach v zero i f o s left g x r at_p q from to =
    let none = ap (λ (b : Built). length b.store) (canon_zero i f o) in
    absurd (omega arith)
canon_reach v (suc k) i f o s left g x r at_p q from to =
    let low : Built = lower k i f o in
    let high : Built = upper k i f o in
    let all : Built = join i low.pointer high.pointer high.store in
    let l : Means v k (suc i) (half false f) low = canon_means v k (suc i) (half false f) o s (omega arith) in
    let h : Means v k (suc i) (half true f) high = canon_means v k (suc i) (half true f) low.store l.sound (omega arith) in
    let past_all : Extends all.store g = rw (canon_suc k i f o) at x in
    let past-high : Extends high.store g = extends_trans (join_extends i low.pointer high.pointer high.store) past_all in
    let past-low : Extends low.store g = extends_trans (canon_extends k (suc i) (half true f) low.store) past-high in
    let at_all : Reach (words g) r all.pointer = rw (canon_suc k i f o) at at_p in
    let to-all : q < length all.store = rw (canon_suc k i f o) at to in
    let both = join_leads v high.store h.sound i low.pointer high.pointer (omega arith) g r past_all at_all in
    elim (dec_lt q (length low.store)) [
      | yes in-low ↦ canon_reach v k (suc i) (half false f) o s (omega arith) g past-low r both.0 q from in-low
      | no after-low ↦ elim (dec_lt q (length high.store)) [
        | yes in-high ↦ canon_reach v k (suc i) (half true f) low.store l.sound (omega arith) g past-high r both.1 q (omega arith) in-high
        | no after-high ↦ subst (Reach (words g) r) (join_adds i low.pointer high.pointer high.store q (omega arith) to-all) at_all
      ]
    ]
