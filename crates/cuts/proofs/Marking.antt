-- Marks in the working room.
use Prim.Native.Nat.{ℕ, zero, suc, ◌+◌, ◌*◌, ◌≤◌, ◌<◌}
use mathlib.Core.Path.{◌≡◌, refl, sym, ap, ◌∙◌}
use mathlib.Core.Bool.{Bool, true, false, not, ◌||◌, or-false, or_assoc}
use mathlib.Core.List.{List, [], ◌∷◌}
use native.Mathlib.Omega.{arith}
use native.Mathlib.Numerals.{add-one}
use lib.ListN.{length, get_or, set, take, drop, length-set}
use lib.Seq.{take_all, get_or-set_same, get_or-set_other, take-set-le, drop-set-lt}
use lib.Dec.{eqb}
use borrow.Author.Tests.{eq-eqb, ne_eqb}
use Rattle.room_map.specs.Map.{marks_to}
use Rattle.diagram.proofs.Tests.{by_test, by-eq}
use Rattle.approximation.specs.Cut.{listed}
use Rattle.cuts.specs.Marks.{marked_in, Markable, Marked}

-- ---- a list, place by place

pub listed_take : (s : List ℕ) (i q : ℕ) → i < length s → listed (take (suc i) s) q ≡ (listed (take i s) q || eqb q (get_or s i 0))
unfolding listed
listed_take [] i q h = absurd (omega arith)
listed_take (p ∷ s) zero q h = or-false (eqb q p)
listed_take (p ∷ s) (suc i) q h = rw (listed_take s i q (omega arith)) (sym (or_assoc (eqb q p) (listed (take i s) q) (eqb q (get_or s i 0))))

-- One that is there.
pub present : (s : List ℕ) (i q : ℕ) → i < length s → get_or s i 0 ≡ q → listed s q ≡ true
unfolding listed
present [] i q h e = absurd (omega arith)
present (p ∷ s) zero q h e = rw (eq-eqb q p (sym e)) refl
present (p ∷ s) (suc i) q h e = or_true (eqb q p) (listed s q) (present s i q (omega arith) e)
  where
    or_true : (a b : Bool) → b ≡ true → (a || b) ≡ true
    or_true true b e = refl
    or_true false b e = e

-- ---- one mark

pub set_marks : (m : ℕ) (r : List ℕ) (p q : ℕ) → m + p < length r → marked_in m (set r (m + p) 1) q ≡ (marked_in m r q || eqb q p)
unfolding marked_in
set_marks m r p q h = by-eq q p
    (λ e. rw (e, get_or-set_same r (m + p) 1 0 h, eq-eqb p p refl) (sym (marked_or (not (eqb (get_or r (m + p) 0) 0)))))
    (λ ne. rw (get_or-set_other r (m + p) (m + q) 1 0 (λ x. ne (omega arith)), ne_eqb q p ne) (sym (or-false (not (eqb (get_or r (m + q) 0) 0)))))
  where
    marked_or : (b : Bool) → (b || true) ≡ true
    marked_or true = refl
    marked_or false = refl

-- ---- the marks of a list

module _ (list : List ℕ) (m : ℕ) (r : List ℕ) where
  pub mark_start : Marked (take 0 list) m r r
  unfolding listed
  mark_start = record { kept = refl; marks = λ q. sym (or-false (marked_in m r q)); before = refl; beyond = refl }

  pub mark_on : {s t : List ℕ} {i x : ℕ} → Marked (take i list) m r s → Markable list r m → i < length list → x ≡ get_or list i 0
      → t ≡ set s (m + x) 1 → Marked (take (i + 1) list) m r t
  mark_on {s} {t} {i} {x} a able h is_x e =
      let low : x < m = rw is_x (able.inside i h) in
      let long = able.long in
      let same = a.kept in
      rw (e, add-one i) (record {
        kept = simp length-set a.kept;
        marks = λ q.
            set_marks m s x q (omega arith) ∙ ap (λ (b : Bool). b || eqb q x) (a.marks q)
            ∙ or_assoc (marked_in m r q) (listed (take i list) q) (eqb q x)
            ∙ ap (λ (b : Bool). marked_in m r q || b)
            (ap (λ (y : ℕ). listed (take i list) q || eqb q y) is_x ∙ sym (listed_take list i q h));
        before = take-set-le m s (m + x) 1 (omega arith) ∙ a.before;
        beyond = drop-set-lt (marks_to m) s (m + x) 1 (omega arith) ∙ a.beyond;
      })

-- All of them.
pub marked_all : (list : List ℕ) {m : ℕ} {r s : List ℕ} {i : ℕ} → Marked (take i list) m r s → length list ≤ i → Marked list m r s
marked_all list {m} {r} {s} {i} a h = rw (take_all i list h) at a
