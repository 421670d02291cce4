-- The nodes that a path meets, level by level.
use Prim.Native.Nat.{ℕ, zero, suc, ◌+◌, ◌≤◌, ◌<◌}
use mathlib.Core.Path.{◌≡◌, refl, sym, ap, ◌∙◌}
use mathlib.Core.Logic.{◌≢◌, ⊎_elim}
use mathlib.Core.Bool.{Bool, true, false, cond, ◌||◌, or-false, or_assoc}
use mathlib.Core.List.{List, [], ◌∷◌}
use native.Mathlib.Omega.{arith}
use lib.ListN.{length, get_or, drop, drop_of_length-le}
use lib.Seq.{drop-cons}
use lib.Dec.{eqb}
use borrow.Author.Tests.{lt-ltb, le-ltb, ne_eqb}
use Rattle.diagram.specs.Diagram.{var_of, low_of, high_of, size, vars, root, step, walk, Ordered}
use Rattle.diagram.specs.Verdict.{any}
use Rattle.diagram.specs.Valuations.{meets}
use Rattle.diagram.specs.Reading.{pass}
use Rattle.diagram.proofs.Tests.{by_test, or_left}
use Rattle.diagram.proofs.Reading.{Layered, layered, root_in, pass_tests, pass_skips, child_in_lem, child_above, at_end, at_level, by_pass}

-- Whether the path from p meets a node that passes a test, where the bits are those of variable i and of the ones after it.
unfoldable pub meet : List ℕ → (ℕ → Bool) → ℕ → ℕ → List Bool → Bool
meet w t i p [] = t p
meet w t i p (b ∷ bs) = t p || meet w t (suc i) (pass w i p b) bs

pub meet_nil : (w : List ℕ) (t : ℕ → Bool) (i p : ℕ) → meet w t i p [] ≡ t p
unfolding meet
meet_nil w t i p = refl

pub meet_cons : (w : List ℕ) (t : ℕ → Bool) (i p : ℕ) (b : Bool) (bs : List Bool)
    → meet w t i p (b ∷ bs) ≡ (t p || meet w t (suc i) (pass w i p b) bs)
unfolding meet
meet_cons w t i p b bs = refl

-- the path stands at p first
pub meet_here : (w : List ℕ) (t : ℕ → Bool) (i p : ℕ) (bs : List Bool) → t p ≡ true → meet w t i p bs ≡ true
meet_here w t i p [] e = meet_nil w t i p ∙ e
meet_here w t i p (b ∷ bs) e = meet_cons w t i p b bs ∙ or_left (t p) (meet w t (suc i) (pass w i p b) bs) e

-- so asking p again adds nothing
pub meet_again : (w : List ℕ) (t : ℕ → Bool) (i p : ℕ) (bs : List Bool) → (t p || meet w t i p bs) ≡ meet w t i p bs
meet_again w t i p bs = by_test (t p)
    (λ e. rw e (sym (meet_here w t i p bs e)))
    (λ e. rw e)

-- ---- on any of the first k numbers

any_zero : (f : ℕ → Bool) → any zero f ≡ false
unfolding any
any_zero f = refl

any_suc : (k : ℕ) (f : ℕ → Bool) → any (suc k) f ≡ (any k f || f k)
unfolding any
any_suc k f = refl

-- the first of them and the others
any_front : (k : ℕ) (f : ℕ → Bool) → any (suc k) f ≡ (f 0 || any k (λ m. f (suc m)))
any_front zero f = rw (any_suc zero f, any_zero f, any_zero (λ m. f (suc m))) (sym (or-false (f 0)))
any_front (suc k) f =
    any_suc (suc k) f
    ∙ ap (λ (b : Bool). b || f (suc k)) (any_front k f)
    ∙ or_assoc (f 0) (any k (λ m. f (suc m))) (f (suc k))
    ∙ ap (λ (b : Bool). f 0 || b) (sym (any_suc k (λ m. f (suc m))))

any_same : (k : ℕ) (f g : ℕ → Bool) → ((m : ℕ) → f m ≡ g m) → any k f ≡ any k g
any_same zero f g h = any_zero f ∙ sym (any_zero g)
any_same (suc k) f g h = rw (any_suc k f, any_suc k g, any_same k f g h, h k)

pub any_or : (k : ℕ) (f g : ℕ → Bool) → any k (λ m. f m || g m) ≡ (any k f || any k g)
any_or zero f g = rw (any_zero f, any_zero g, any_zero (λ m. f m || g m))
any_or (suc k) f g =
    rw (any_suc k f, any_suc k g, any_suc k (λ m. f m || g m), any_or k f g) (four (any k f) (any k g) (f k) (g k))
  where
    four : (a b c d : Bool) → ((a || b) || (c || d)) ≡ ((a || c) || (b || d))
    four true b c d = refl
    four false true true d = refl
    four false true false d = refl
    four false false c d = refl

step_ends : (w : List ℕ) (bs : List Bool) (p : ℕ) → p < 2 → step w bs p ≡ p
unfolding step
step_ends w bs p h = simp (lt-ltb p 2 h)

step_goes : (w : List ℕ) (bs : List Bool) (p : ℕ) → 2 ≤ p → step w bs p ≡ cond (get_or bs (var_of w p) false) (high_of w p) (low_of w p)
unfolding step
step_goes w bs p h = simp (le-ltb p 2 h)

pub walk_zero : (w : List ℕ) (bs : List Bool) (p : ℕ) → walk w bs zero p ≡ p
unfolding walk
walk_zero w bs p = refl

walk_suc : (w : List ℕ) (bs : List Bool) (k p : ℕ) → walk w bs (suc k) p ≡ walk w bs k (step w bs p)
unfolding walk
walk_suc w bs k p = refl

pub walk_ends : (w : List ℕ) (bs : List Bool) (k p : ℕ) → p < 2 → walk w bs k p ≡ p
walk_ends w bs zero p h = walk_zero w bs p
walk_ends w bs (suc k) p h = walk_suc w bs k p ∙ ap (walk w bs k) (step_ends w bs p h) ∙ walk_ends w bs k p h

pub walk_on : (w : List ℕ) (bs : List Bool) (j k p : ℕ) → walk w bs (j + k) p ≡ walk w bs k (walk w bs j p)
walk_on w bs zero k p =
    let e : zero + k ≡ k = omega arith in
    rw (e, walk_zero w bs p)
walk_on w bs (suc j) k p =
    let e : suc j + k ≡ suc (j + k) = omega arith in
    rw (e, walk_suc w bs (j + k) p, walk_suc w bs j p) (walk_on w bs j k (step w bs p))

-- the path from p, of at most k links, meets
abbrev along : List ℕ → (ℕ → Bool) → List Bool → ℕ → ℕ → Bool
along w t bs k p = any (suc k) (λ m. t (walk w bs m p))

along_ends : (w : List ℕ) (t : ℕ → Bool) (bs : List Bool) (k p : ℕ) → p < 2 → along w t bs k p ≡ t p
along_ends w t bs zero p h =
    any_suc zero (λ m. t (walk w bs m p)) ∙ rw (any_zero (λ m. t (walk w bs m p)), walk_zero w bs p)
along_ends w t bs (suc k) p h =
    any_suc (suc k) (λ m. t (walk w bs m p)) ∙ rw (along_ends w t bs k p h, walk_ends w bs (suc k) p h) (or_same (t p))
  where
    or_same : (b : Bool) → (b || b) ≡ b
    or_same true = refl
    or_same false = refl

along_goes : (w : List ℕ) (t : ℕ → Bool) (bs : List Bool) (k p : ℕ) → along w t bs (suc k) p ≡ (t p || along w t bs k (step w bs p))
along_goes w t bs k p =
    any_front (suc k) (λ m. t (walk w bs m p))
    ∙ rw (walk_zero w bs p)
    (ap (λ (b : Bool). t p || b) (any_same (suc k) (λ m. t (walk w bs (suc m) p)) (λ m. t (walk w bs m (step w bs p))) (λ m. ap t (walk_suc w bs m p))))

meet_drop : (w : List ℕ) (t : ℕ → Bool) (bs : List Bool) (i p : ℕ) → i < length bs
    → meet w t i p (drop i bs) ≡ (t p || meet w t (suc i) (pass w i p (get_or bs i false)) (drop (suc i) bs))
meet_drop w t bs i p h = rw (drop-cons bs i false h) (meet_cons w t i p (get_or bs i false) (drop (suc i) bs))

module _ (w : List ℕ) (v n : ℕ) (g : Layered w v n) (t : ℕ → Bool) where
  -- a variable that the node skips
  pub meet_skips : (i p : ℕ) (b : Bool) (bs : List Bool) → i < var_of w p → meet w t i p (b ∷ bs) ≡ meet w t (suc i) p bs
  meet_skips i p b bs h =
      meet_cons w t i p b bs ∙ rw (pass_skips w i p b h) (meet_again w t (suc i) p bs)

  -- fuel k is enough at p, and j levels are left from i on
  along_meet : (bs : List Bool) → length bs ≡ v → (j k i p : ℕ) → i + j ≡ v → p < n → i ≤ var_of w p → v ≤ var_of w p + k
      → along w t bs k p ≡ meet w t i p (drop i bs)
  along_meet bs l zero k i p left h below fuel =
      let none : drop i bs ≡ [] = drop_of_length-le bs {i = i} (omega arith) in
      rw (none, meet_nil w t i p) (along_ends w t bs k p (at_end w v n g p h (omega arith)))
  along_meet bs l (suc j) zero i p left h below fuel =
      rw (meet_drop w t bs i p (omega arith)) (⊎_elim
      (λ x. absurd (omega arith))
      (λ s. rw (pass_skips w i p (get_or bs i false) s) (along_meet bs l j zero (suc i) p (omega arith) h s fuel ∙ sym (meet_again w t (suc i) p (drop (suc i) bs))))
      (at_level w v n g i p h below (omega arith)))
  along_meet bs l (suc j) (suc k) i p left h below fuel =
      rw (meet_drop w t bs i p (omega arith)) (⊎_elim
      (λ x.
      let a = g.node p x.0 h in
      let b : Bool = get_or bs i false in
      let up = child_above w v n p a b in
      let same : get_or bs (var_of w p) false ≡ b = ap (λ (y : ℕ). get_or bs y false) x.1 in
      along_goes w t bs k p
      ∙ rw (pass_tests w i p b x.0 x.1, step_goes w bs p x.0, same)
      (ap (λ (y : Bool). t p || y) (along_meet bs l j k (suc i) (cond b (high_of w p) (low_of w p)) (omega arith) (child_in_lem w v n p a b) (omega arith) (omega arith))))
      (λ s. rw (pass_skips w i p (get_or bs i false) s) (along_meet bs l j (suc k) (suc i) p (omega arith) h s fuel ∙ sym (meet_again w t (suc i) p (drop (suc i) bs))))
      (at_level w v n g i p h below (omega arith)))

-- the nodes that a valuation's path meets, level by level
pub meets_is_meet : (w : List ℕ) → Ordered w → (t : ℕ → Bool) (bs : List Bool) → length bs ≡ vars w → meets w bs t ≡ meet w t 0 (root w) bs
unfolding meets
meets_is_meet w o t bs l =
    along_meet w (vars w) (size w) (layered w o) t bs l (vars w) (vars w) 0 (root w) (omega arith) (root_in w o) (omega arith) (omega arith)

-- a node that stands at no smaller variable is not met from another one
pub meet_none : (w : List ℕ) (v n : ℕ) → Layered w v n → (t i p : ℕ) (bs : List Bool) → p < n → p ≢ t → var_of w t ≤ var_of w p
    → meet w (eqb t) i p bs ≡ false
meet_none w v n g t i p [] h ne up = meet_nil w (eqb t) i p ∙ ne_eqb t p (λ e. ne (sym e))
meet_none w v n g t i p (b ∷ bs) h ne up =
    meet_cons w (eqb t) i p b bs
    ∙ rw (ne_eqb t p (λ e. ne (sym e)))
    (by_pass (λ q. (q < n → q ≢ t → var_of w t ≤ var_of w q → meet w (eqb t) (suc i) q bs ≡ false) → meet w (eqb t) (suc i) q bs ≡ false) w i p b
    (λ two e f.
    let a = g.node p two h in
    let above = child_above w v n p a b in
    f (child_in_lem w v n p a b) (λ x. let same = ap (λ (y : ℕ). var_of w y) x in omega arith) (omega arith))
    (λ f. f h ne up)
    (λ k x y. meet_none w v n g t (suc i) (pass w i p b) bs k x y))
