-- Building from a function. It only adds to the store; building again on any store that has grown since adds nothing, and
-- gives the same pointer (a memo rests on this); it depends on the function's values alone; a level that the function
-- ignores leaves no trace. Nothing is asked of the store.
use Prim.Native.Nat.{ℕ, zero, suc, ◌<◌}
use mathlib.Core.Path.{◌≡◌, refl, sym, ap, ◌∙◌}
use mathlib.Core.Logic.{◌≢◌}
use mathlib.Core.Bool.{Bool, true, false, cond}
use mathlib.Core.List.{List, [], ◌∷◌, ◌++◌}
use native.Mathlib.Omega.{arith}
use native.Mathlib.Decide.{ℕ_discrete, dec_lt}
use lib.ListN.{length}
use borrow.Author.Tests.{eq-eqb, ne_eqb, lt-ltb, le-ltb}
use Rattle.store.specs.Store.{Node, node, find, Built, built, join, half, canon}
use Rattle.store.proofs.Store.{find_most, find_new, Extends, extends_refl, extends_trans, extends_add, extends_length, extends_find, length_add}

-- ---- join, by its three cases

pub join_equal : (i l h : ℕ) (o : List Node) → l ≡ h → join i l h o ≡ built o l
unfolding join
join_equal i l h o e = simp (eq-eqb l h e)

pub join_there : (i l h : ℕ) (o : List Node) → l ≢ h → find (node i l h) o < length o → join i l h o ≡ built o (find (node i l h) o)
unfolding join
join_there i l h o ne there = simp (ne_eqb l h ne, lt-ltb (find (node i l h) o) (length o) there)

pub join_new : (i l h : ℕ) (o : List Node) → l ≢ h → find (node i l h) o ≡ length o
    → join i l h o ≡ built (o ++ (node i l h ∷ [])) (length o)
unfolding join
join_new i l h o ne new = simp (ne_eqb l h ne, new, le-ltb (length o) (length o) (omega arith))

pub by_join : (P : Built → Type 0) (i l h : ℕ) (o : List Node)
    → (l ≡ h → P (built o l))
    → (l ≢ h → find (node i l h) o < length o → P (built o (find (node i l h) o)))
    → (l ≢ h → find (node i l h) o ≡ length o → P (built (o ++ (node i l h ∷ [])) (length o)))
    → P (join i l h o)
by_join P i l h o equal there new = elim (ℕ_discrete l h) [
  | yes e ↦ rw (join_equal i l h o e) (equal e)
  | no ne ↦ elim (dec_lt (find (node i l h) o) (length o)) [
    | yes t ↦ rw (join_there i l h o ne t) (there ne t)
    | no t ↦
        let e : find (node i l h) o ≡ length o = (let m = find_most (node i l h) o in omega arith) in
        rw (join_new i l h o ne e) (new ne e)
  ]
]

pub join_extends : (i l h : ℕ) (o : List Node) → Extends o (join i l h o).store
join_extends i l h o = by_join (λ b. Extends o b.store) i l h o
    (λ e. extends_refl o) (λ ne t. extends_refl o) (λ ne e. extends_add o (node i l h))

pub join_again : (i l h : ℕ) (o o' : List Node) → Extends (join i l h o).store o' → join i l h o' ≡ built o' (join i l h o).pointer
join_again i l h o o' = by_join (λ b. Extends b.store o' → join i l h o' ≡ built o' b.pointer) i l h o
    (λ e x. join_equal i l h o' e)
    (λ ne t x. again ne x t (refl))
    (λ ne e x. again ne x (let f = find_new (node i l h) o [] e in let k = length_add o (node i l h) in omega arith) (find_new (node i l h) o [] e))
  where
    again : {s : List Node} {p : ℕ} → l ≢ h → Extends s o' → find (node i l h) s < length s → find (node i l h) s ≡ p → join i l h o' ≡ built o' p
    again {s} {p} ne x t e =
        let f = extends_find x (node i l h) t in
        let k = extends_length x in
        join_there i l h o' ne (omega arith) ∙ ap (built o') (f ∙ e)

-- ---- canon

pub canon_zero : (i : ℕ) (f : List Bool → Bool) (o : List Node) → canon zero i f o ≡ built o (cond (f []) 1 0)
unfolding canon
canon_zero i f o = refl

module _ (k i : ℕ) (f : List Bool → Bool) (o : List Node) where
  -- The two halves of building one level.
  abbrev pub lower : Built
  lower = canon k (suc i) (half false f) o

  abbrev pub upper : Built
  upper = canon k (suc i) (half true f) lower.store

  pub canon_suc : canon (suc k) i f o ≡ join i lower.pointer upper.pointer upper.store
  unfolding canon
  canon_suc = refl

pub canon_extends : (k i : ℕ) (f : List Bool → Bool) (o : List Node) → Extends o (canon k i f o).store
canon_extends zero i f o = rw (canon_zero i f o) (extends_refl o)
canon_extends (suc k) i f o = rw (canon_suc k i f o)
    (extends_trans (extends_trans (canon_extends k (suc i) (half false f) o) (canon_extends k (suc i) (half true f) (lower k i f o).store))
    (join_extends i (lower k i f o).pointer (upper k i f o).pointer (upper k i f o).store))

-- Building again adds nothing and gives the same pointer.
pub canon_again : (k i : ℕ) (f : List Bool → Bool) (o o' : List Node) → Extends (canon k i f o).store o'
    → canon k i f o' ≡ built o' (canon k i f o).pointer
canon_again zero i f o o' x = canon_zero i f o' ∙ ap (λ (b : Built). built o' b.pointer) (sym (canon_zero i f o))
canon_again (suc k) i f o o' x =
    let low : Built = lower k i f o in
    let high : Built = upper k i f o in
    let made : Extends (join i low.pointer high.pointer high.store).store o' = rw (canon_suc k i f o) at x in
    let past-high : Extends high.store o' = extends_trans (join_extends i low.pointer high.pointer high.store) made in
    let past-low : Extends low.store o' = extends_trans (canon_extends k (suc i) (half true f) low.store) past-high in
    rw (
      canon_suc k i f o',
      canon_suc k i f o,
      canon_again k (suc i) (half false f) o o' past-low,
      canon_again k (suc i) (half true f) low.store o' past-high,
    )
    (join_again i low.pointer high.pointer high.store o' made)

-- Two functions have the same values on k bits.
abbrev pub Same : ℕ → (List Bool → Bool) → (List Bool → Bool) → Type 0
Same k f g = (bs : List Bool) → length bs ≡ k → f bs ≡ g bs

pub canon_cong : (k i : ℕ) (f g : List Bool → Bool) → Same k f g → (o : List Node) → canon k i f o ≡ canon k i g o
canon_cong zero i f g s o = rw (canon_zero i f o, canon_zero i g o, s [] refl) refl
canon_cong (suc k) i f g s o =
    rw (
      canon_suc k i f o,
      canon_suc k i g o,
      canon_cong k (suc i) (half false f) (half false g) (λ bs l. s (false ∷ bs) (ap suc l)) o,
      canon_cong k (suc i) (half true f) (half true g) (λ bs l. s (true ∷ bs) (ap suc l)) (lower k i g o).store,
    )
    refl

-- A level at which both halves are one function is passed over.
pub canon_skip : (k i : ℕ) (f g : List Bool → Bool) (o : List Node) → Same k (half false f) g → Same k (half true f) g
    → canon (suc k) i f o ≡ canon k (suc i) g o
canon_skip k i f g o a b =
    let once : Built = canon k (suc i) g o in
    rw (
      canon_suc k i f o,
      canon_cong k (suc i) (half false f) g a o,
      canon_cong k (suc i) (half true f) g b once.store,
      canon_again k (suc i) g o once.store (extends_refl once.store),
    )
    (join_equal i once.pointer once.pointer once.store refl)

-- A function that is the same for all bits is a terminal, and adds nothing.
pub canon_constant : (t : Bool) (k i : ℕ) (f : List Bool → Bool) (o : List Node) → Same k f (λ bs. t) → canon k i f o ≡ built o (cond t 1 0)
canon_constant t zero i f o s = rw (canon_zero i f o, s [] refl) refl
canon_constant t (suc k) i f o s =
    canon_skip k i f (λ bs. t) o (λ bs l. s (false ∷ bs) (ap suc l)) (λ bs l. s (true ∷ bs) (ap suc l))
    ∙ canon_constant t k (suc i) (λ bs. t) o (λ bs l. refl)
