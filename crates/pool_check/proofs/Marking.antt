-- Marking what slots and links name.
use Prim.Native.Nat.{ℕ, suc, ◌+◌, ◌≤◌, ◌<◌, max}
use mathlib.Core.Path.{◌≡◌, sym, ◌∙◌, ap}
use mathlib.Core.Bool.{Bool, false, not, ◌&&◌, ◌||◌, or-false, or_assoc, not-not}
use mathlib.Core.List.{List}
use native.Mathlib.Omega.{arith}
use native.Mathlib.Numerals.{add-one}
use borrow.Author.Tests.{eq-eqb, ne_eqb, le-leb, lt-leb}
use lib.ListN.{get_or, set, replicate, length-set, length-replicate, get_or-replicate}
use lib.Seq.{get_or-set_same, get_or-set_other}
use lib.Dec.{eqb}
use Rattle.diagram.specs.Limits.{max_nodes}
use Rattle.diagram.specs.Diagram.{low_of, high_of, size}
use Rattle.diagram.specs.Verdict.{any, is_child}
use Rattle.diagram.proofs.Tests.{by-eq, or_right}
use Rattle.pool.specs.Pool.{slot_count, is_free, is_wanted, each_node}
use Rattle.pool.proofs.Testing.{any_none}
use Rattle.pool_check.specs.Marks.{is_bare, Marks, nowhere, is_named, is_linked, Links}
use Rattle.pool_check.proofs.Scans.{each_same}

pub marks_begin : (n : ℕ) → max_nodes < n → Marks nowhere (replicate n 0)
marks_begin n long =
    record {
      long = rw length-replicate long;
      each = λ p l. eq-eqb (get_or (replicate n 0) (suc p) 0) 0 (get_or-replicate n (suc p) 0 0 (omega arith));
    }

-- two tests that agree
pub marks_same : {f g : ℕ → Bool} {m : List ℕ} → Marks f m → ((p : ℕ) → f p ≡ g p) → Marks g m
marks_same a same = record { long = a.long; each = λ p l. a.each p l ∙ ap not (same p) }

-- one name more
name_marked : (f : ℕ → Bool) (m : List ℕ) (x : ℕ) → Marks f m → Marks (λ p. f p || eqb x (suc p)) (set m x 1)
name_marked f m x a =
    record {
      long = rw length-set a.long;
      each = λ p l. by-eq x (suc p)
          (λ e.
          let long = a.long in
          let here : get_or (set m x 1) (suc p) 0 ≡ 1 = rw e (get_or-set_same m (suc p) 1 0 (omega arith)) in
          ne_eqb (get_or (set m x 1) (suc p) 0) 0 (λ z. omega arith) ∙ sym (ap not (or_right (f p) (eqb x (suc p)) (eq-eqb x (suc p) e))))
          (λ ne.
          ap (λ (y : ℕ). eqb y 0) (get_or-set_other m x (suc p) 1 0 (λ e. ne (sym e)))
          ∙ a.each p l
          ∙ sym (ap (λ (b : Bool). not (f p || b)) (ne_eqb x (suc p) ne) ∙ ap not (or-false (f p))));
    }

-- ---- slots

pub named_begin : (s : List ℕ) {m : List ℕ} → Marks nowhere m → Marks (is_named s 0) m
unfolding any
named_begin s a = a

pub named_on : (s m : List ℕ) (k : ℕ) {name at : ℕ} {m' : List ℕ} → Marks (is_named s k) m → name ≡ get_or s k 0 → at ≡ name → m' ≡ set m at 1 → Marks (is_named s (k + 1)) m'
unfolding any
named_on s m k a en ea e = rw (e, ea, en, add-one k) (name_marked (is_named s k) m (get_or s k 0) a)

-- ---- links

suc_same : (x p : ℕ) → eqb (suc x) (suc p) ≡ eqb x p
suc_same x p = by-eq x p
    (λ e. eq-eqb (suc x) (suc p) (ap suc e) ∙ sym (eq-eqb x p e))
    (λ ne. ne_eqb (suc x) (suc p) (λ e. ne (omega arith)) ∙ sym (ne_eqb x p ne))

-- one node's children more
children_marked : (t m : List ℕ) (f : ℕ → Bool) (q : ℕ) → 2 ≤ q → Marks f m
    → Marks (λ p. f p || is_child t q p) (set (set m (suc (low_of t q)) 1) (suc (high_of t q)) 1)
unfolding is_child
children_marked t m f q two a =
    let low : ℕ = low_of t q in
    let high : ℕ = high_of t q in
    marks_same
    (name_marked (λ p. f p || eqb (suc low) (suc p)) (set m (suc low) 1) (suc high) (name_marked f m (suc low) a))
    (λ p. rw (suc_same low p, suc_same high p, le-leb 2 q two) (or_assoc (f p) (eqb low p) (eqb high p)))

-- The children of the places before n have their marks.
pub record Linking (t m : List ℕ) (n : ℕ) (m' : List ℕ) : Type 0 where
  pub two : 2 ≤ n
  pub adds : (test : ℕ → Bool) → Marks test m → Marks (λ p. test p || is_linked t n p) m'

-- terminals are nobody's parents
linked_early : (t : List ℕ) (n p : ℕ) → n ≤ 2 → is_linked t n p ≡ false
unfolding is_child
linked_early t n p few = any_none n (λ q. is_child t q p) (λ q l. rw (lt-leb 2 q (omega arith)))

pub linking_begin : (t m : List ℕ) → Linking t m 2 m
linking_begin t m =
    record {
      two = omega arith;
      adds = λ test a. marks_same a (λ p. sym (ap (λ (b : Bool). test p || b) (linked_early t 2 p (omega arith)) ∙ or-false (test p)));
    }

pub linking_on : (t m : List ℕ) (n : ℕ) {m₁ m₂ : List ℕ} → Linking t m n m₁
    → m₂ ≡ set (set m₁ (suc (low_of t n)) 1) (suc (high_of t n)) 1 → Linking t m (n + 1) m₂
unfolding any
linking_on t m n {m₁} a e =
    record {
      two = let two = a.two in omega arith;
      adds = λ test b.
          rw (e, add-one n)
          (marks_same (children_marked t m₁ (λ p. test p || is_linked t n p) n a.two (a.adds test b))
          (λ p. or_assoc (test p) (is_linked t n p) (is_child t n p)));
    }

-- past the last place, and past the terminals where there is no other
pub linking_end : (t m : List ℕ) (n : ℕ) {m' : List ℕ} → Linking t m n m' → size t ≤ n → n ≤ max 2 (size t) → Links t m m'
linking_end t m n a all most =
    record { adds = λ test b. marks_same (a.adds test b) (λ p. ap (λ (x : Bool). test p || x) (same p)) }
  where
    same : (p : ℕ) → is_linked t n p ≡ is_linked t (size t) p
    same p = by-eq n (size t)
        (λ e. ap (λ (k : ℕ). is_linked t k p) e)
        (λ ne. linked_early t n p (omega arith) ∙ sym (linked_early t (size t) p (omega arith)))

-- ---- the scan for nodes without a mark

abbrev pub is_marked : List ℕ → ℕ → Bool
is_marked m p = not (is_bare m p)

pub lost_is : (t m : List ℕ) (p : ℕ) {r : Bool} → r ≡ (not (is_free t p) && is_bare m p) → r ≡ (not (is_free t p) && not (is_marked m p))
lost_is t m p e = rw (not-not (is_bare m p)) e

-- ---- the whole

pub wanted_by : (t s : List ℕ) {m₁ m₂ : List ℕ} {r : Bool} → size t ≤ max_nodes → Marks (is_named s slot_count) m₁ → Links t m₁ m₂
    → r ≡ each_node t (is_marked m₂) → r ≡ each_node t (is_wanted t s)
unfolding is_wanted
wanted_by t s {m₁} {m₂} few a links e =
    let all = links.adds (is_named s slot_count) a in
    e ∙ each_same t (is_marked m₂) (is_wanted t s)
    (λ p l. ap not (all.each p (omega arith)) ∙ not-not (is_named s slot_count p || is_linked t (size t) p))
