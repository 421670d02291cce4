-- The part of a pool's table that is walked is an ordered array and reads as the table does. Building a condition from it is building the
-- node that the slot names.
use Prim.Native.Nat.{ℕ, zero, suc, ◌+◌, ◌*◌, ◌≤◌, ◌<◌}
use mathlib.Core.Path.{◌≡◌, refl, sym, ap, ◌∙◌, subst}
use mathlib.Core.Logic.{⊎_elim}
use mathlib.Core.Bool.{Bool}
use mathlib.Core.List.{List, [], ◌∷◌}
use native.Mathlib.Omega.{arith}
use lib.ListN.{length, get_or, take}
use lib.Seq.{take-length, get_or-take, length-take-le}
use lib.Dec.{eqb}
use borrow.Author.Tests.{eq-eqb, ne_eqb}
use Rattle.diagram.specs.Diagram.{var_of, low_of, high_of, size, vars, root, walk, holds, Terminal, InRange, Above, Ordered}
use Rattle.diagram.specs.Reading.{eval}
use Rattle.diagram.proofs.Tests.{by-eq}
use Rattle.diagram.proofs.Reading.{layered, holds_from_lem}
use Rattle.store.specs.Store.{Node, canon}
use Rattle.store.specs.Build.{own}
use Rattle.store.proofs.Canon.{canon_cong}
use Rattle.store.proofs.Graph.{own_level}
use Rattle.pool.specs.Pool.{terminal_words, Free, Inner, Live, WellFormed, holds_from, live, slot_of, held}
use Rattle.pool.specs.Walked.{walked_words, walked}

-- ---- which part it is

pub walked_whole : (t : List ℕ) → 0 < vars t → walked t ≡ t
unfolding walked_words
walked_whole t some = rw (ne_eqb (vars t) 0 (omega arith)) (take-length t)

pub walked_ends : (t : List ℕ) → vars t ≡ 0 → walked t ≡ take terminal_words t
unfolding walked_words
walked_ends t none = rw (eq-eqb (vars t) 0 none) refl

-- Whether there are variables.
pub by-vars {ℓ} : {C : Type ℓ} (t : List ℕ) → (0 < vars t → C) → (vars t ≡ 0 → C) → C
by-vars t some none = by-eq (vars t) 0 none (λ ne. some (omega arith))

-- With no variables the path ends where it begins.
holds_at_once : (w : List ℕ) (p : ℕ) → vars w ≡ 0 → holds_from w p ≡ (λ (bs : List Bool). eqb p 1)
unfolding holds_from walk
holds_at_once w p none = ap {B = List Bool → Bool} (λ (k : ℕ) (bs : List Bool). eqb (walk w bs k p) 1) none

-- ---- free places and nodes

pub free-or-not {ℓ} : {C : Type ℓ} (t : List ℕ) (p : ℕ) → (Free t p → C) → (¬ Free t p → C) → C
free-or-not t p yes-case no-case =
    by-eq (var_of t p) 0
    (λ var. by-eq (low_of t p) 0
    (λ low. by-eq (high_of t p) 0
    (λ high. yes-case (record { var = var; low = low; high = high }))
    (λ ne. no-case (λ f. ne f.high)))
    (λ ne. no-case (λ f. ne f.low)))
    (λ ne. no-case (λ f. ne f.var))

-- With no variables there is no node after the terminals.
pub no_inner : (t s : List ℕ) → WellFormed t s → vars t ≡ 0 → (p : ℕ) → Inner t p → ⊥
no_inner t s f none p i = let r = (f.ranges p i).var in omega arith

module _ (t s : List ℕ) (f : WellFormed t s) where
  -- ---- all of it, where there are variables: free places read as nodes at variable 0, over the zero terminal

  ranges_all : 0 < vars t → (p : ℕ) → 2 ≤ p → p < size t → InRange t p
  ranges_all some p two h = free-or-not t p
      (λ e. let two-places = f.two in let v = e.var in let l = e.low in let r = e.high in record { var = omega arith; low = omega arith; high = omega arith })
      (λ ne. f.ranges p (record { after = two; inside = h; used = ne }))

  above_all : 0 < vars t → (p : ℕ) → 2 ≤ p → p < size t → Above t p
  above_all some p two h = free-or-not t p
      (λ e. record { low = rw (e.var, e.low) some; high = rw (e.var, e.high) some })
      (λ ne. f.ordered p (record { after = two; inside = h; used = ne }))

  table_ordered : 0 < vars t → Ordered t
  table_ordered some = record {
    formed = record {
      whole = f.whole;
      some = let two = f.two in omega arith;
      few = f.few;
      zero_terminal = f.zero_terminal;
      one_terminal = λ h. f.one_terminal;
      variables = f.variables;
      ranges = ranges_all some;
    };
    ordered = above_all some;
  }

  -- ---- the terminals

  ends_length : length (take terminal_words t) ≡ terminal_words
  ends_length = length-take-le terminal_words t (let two = f.two in let whole = f.whole in omega arith)

  ends_word : (j : ℕ) → j < terminal_words → get_or (take terminal_words t) j 0 ≡ get_or t j 0
  ends_word j h = get_or-take terminal_words t j 0 h

  ends_terminal : (p : ℕ) → p < 2 → Terminal t p → Terminal (take terminal_words t) p
  ends_terminal p h e = record {
    var = ends_word (3 * p) (omega arith) ∙ e.var ∙ sym (ends_word 0 (omega arith));
    low = ends_word (3 * p + 1) (omega arith) ∙ e.low;
    high = ends_word (3 * p + 2) (omega arith) ∙ e.high;
  }

  ends_ordered : Ordered (take terminal_words t)
  ends_ordered =
      let n = ends_length in
      let v = ends_word 0 (omega arith) in
      let most = f.variables in
      record {
        formed = record {
          whole = omega arith;
          some = omega arith;
          few = omega arith;
          zero_terminal = ends_terminal 0 (omega arith) f.zero_terminal;
          one_terminal = λ h. ends_terminal 1 (omega arith) f.one_terminal;
          variables = omega arith;
          ranges = λ p two h. absurd (omega arith);
        };
        ordered = λ p two h. absurd (omega arith);
      }

  -- ---- the part that is walked

  by_walked : (P : List ℕ → Type 0) → (0 < vars t → P t) → (vars t ≡ 0 → P (take terminal_words t)) → P (walked t)
  by_walked P whole ends = by-vars t
      (λ some. subst P (sym (walked_whole t some)) (whole some))
      (λ none. subst P (sym (walked_ends t none)) (ends none))

  pub walked_ordered : Ordered (walked t)
  walked_ordered = by_walked Ordered table_ordered (λ none. ends_ordered)

  pub walked_vars : vars (walked t) ≡ vars t
  walked_vars = by_walked (λ w. vars w ≡ vars t) (λ some. refl) (λ none. ends_word 0 (omega arith))

  pub walked_size : size (walked t) ≤ size t
  walked_size = by_walked (λ w. size w ≤ size t) (λ some. omega arith) (λ none. let n = ends_length in let two = f.two in omega arith)

  pub walked_two : 2 ≤ size (walked t)
  walked_two = by_walked (λ w. 2 ≤ size w) (λ some. f.two) (λ none. let n = ends_length in omega arith)

  pub walked_length : length (walked t) ≡ 3 * size (walked t)
  walked_length = walked_ordered.formed.whole

  -- Live slots name nodes of it.
  pub live_inside : (k r : ℕ) → Live s k r → r < size t
  live_inside k r l = ⊎_elim (λ ends. let two = f.two in omega arith) (λ i. i.inside) (f.named k r l)

  pub walked_names : (k r : ℕ) → Live s k r → r < size (walked t)
  walked_names k r l = by_walked (λ w. r < size w)
      (λ some. live_inside k r l)
      (λ none. let n = ends_length in ⊎_elim (λ ends. omega arith) (λ i. absurd (no_inner t s f none r i)) (f.named k r l))

  -- It reads as the table does.
  pub walked_holds : (p : ℕ) → holds_from (walked t) p ≡ holds_from t p
  walked_holds p = by_walked (λ w. holds_from w p ≡ holds_from t p)
      (λ some. refl)
      (λ none. holds_at_once (take terminal_words t) p (ends_word 0 (omega arith) ∙ none) ∙ sym (holds_at_once t p none))

  pub walked_slot : (x : ℕ) → slot_of (walked t) x ≡ slot_of t x
  unfolding slot_of
  walked_slot zero = refl
  walked_slot (suc p) = ap live (walked_holds p)

  pub walked_held : (s' : List ℕ) → held (walked t) s' ≡ held t s'
  unfolding held
  walked_held [] = refl
  walked_held (x ∷ s') = rw (walked_slot x, walked_held s') refl

-- ---- building from it

pub holds_root : (w : List ℕ) → holds w ≡ holds_from w (root w)
unfolding holds holds_from
holds_root w = refl

pub holds_from_eval : (w : List ℕ) → Ordered w → (p : ℕ) → p < size w → (bs : List Bool) → length bs ≡ vars w → holds_from w p bs ≡ eval w 0 p bs
unfolding holds_from
holds_from_eval w o p h bs l = holds_from_lem w o bs l 0 p h (omega arith)

-- Building what holds from a node is building the node.
pub canon_own : (w : List ℕ) → Ordered w → (p : ℕ) → p < size w → (o : List Node) → canon (vars w) 0 (holds_from w p) o ≡ own w (vars w) p o
canon_own w g p h o =
    canon_cong (vars w) 0 (holds_from w p) (eval w 0 p) (holds_from_eval w g p h) o
    ∙ own_level w (vars w) (size w) (layered w g) p 0 (vars w) h (omega arith) (omega arith) o
