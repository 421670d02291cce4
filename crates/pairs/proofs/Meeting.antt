-- The walk over pairs, `meet`: one step of it, how far it has to go, and what it leaves.
use Prim.Native.Nat.{ℕ, zero, suc, ◌+◌, ◌≤◌, ◌<◌}
use mathlib.Core.Path.{◌≡◌, refl, sym, ap, ◌∙◌, subst}
use mathlib.Core.Bool.{true, false}
use mathlib.Core.List.{List, [], ◌∷◌, ◌++◌}
use native.Mathlib.Omega.{arith}
use lib.ListN.{length, length-append, get_or-append}
use lib.Dec.{eqb}
use borrow.Author.Tests.{eqb-true, eq-eqb}
use Rattle.diagram.specs.Diagram.{vars}
use Rattle.diagram.proofs.Tests.{by_test, not_both, and_both, both_and, or_cases, or_left, or_right, cond-true, cond-false}
use Rattle.counts.specs.Counting.{In, here, there}
use Rattle.counts.proofs.Turns.{in_left}
use Rattle.pairs.specs.Pairs.{Pair, pair, level_of, next, ended, same, met, meet, meet_from}
use Rattle.pairs.specs.Table.{at, Alike}
use Rattle.pairs.proofs.Levels.{Inside, level_most, next_in_lem, next_above}

-- ---- pairs that were met

pub pair_ext : (x y : Pair) → x.first ≡ y.first → x.second ≡ y.second → x ≡ y
pair_ext x y e f = ap (λ (p : ℕ). pair p x.second) e ∙ ap (λ (q : ℕ). pair y.first q) f

same_told : (x y : Pair) → same x y ≡ true → x ≡ y
unfolding same
same_told x y e =
    let b = and_both (eqb x.first y.first) (eqb x.second y.second) e in
    pair_ext x y (eqb-true x.first y.first b.0) (eqb-true x.second y.second b.1)

same_self : (x : Pair) → same x x ≡ true
unfolding same
same_self x = both_and (eqb x.first x.first) (eqb x.second x.second) (eq-eqb x.first x.first refl) (eq-eqb x.second x.second refl)

pub met_in : (x : Pair) (s : List Pair) → met x s ≡ true → In x s
unfolding met
met_in x [] e = absurd (not_both false e refl)
met_in x (y ∷ s) e = or_cases (same x y) (met x s) e
    (λ t. subst (λ (z : Pair). In x (z ∷ s)) (same_told x y t) here)
    (λ t. there (met_in x s t))

pub in_met : (x : Pair) (s : List Pair) → In x s → met x s ≡ true
unfolding met
in_met x [] x' = elim x' [ ]
in_met x (y ∷ s) here = or_left (same x x) (met x s) (same_self x)
in_met x (y ∷ s) (there i) = or_right (same x y) (met x s) (in_met x s i)

-- by place
pub at_in : (s : List Pair) (i : ℕ) → i < length s → In (at s i) s
at_in [] i l = absurd (omega arith)
at_in (y ∷ s) zero l = here
at_in (y ∷ s) (suc i) l = there (at_in s i (omega arith))

pub in_at : (x : Pair) (s : List Pair) → In x s → (i : ℕ) × (i < length s) × (at s i ≡ x)
in_at x [] x' = elim x' [ ]
in_at x (y ∷ s) here = (0, omega arith, refl)
in_at x (y ∷ s) (there i) = let r = in_at x s i in (suc r.0, omega (arith, r.1), r.2)

pub one_more : (s : List Pair) (x : Pair) → length (s ++ (x ∷ [])) ≡ suc (length s)
one_more s x = length-append s (x ∷ []) ∙ omega arith

-- ---- one step

module _ (a b : List ℕ) where
  pub meet_met : (k : ℕ) (x : Pair) (s : List Pair) → met x s ≡ true → meet a b (suc k) x s ≡ s
  unfolding meet
  meet_met k x s e = cond-true (met x s) s _ e

  pub meet_end : (k : ℕ) (x : Pair) (s : List Pair) → met x s ≡ false → ended x ≡ true → meet a b (suc k) x s ≡ s ++ (x ∷ [])
  unfolding meet
  meet_end k x s e f = cond-false (met x s) s _ e ∙ ap (λ (l : List Pair). l ++ (x ∷ [])) (cond-true (ended x) s _ f)

  pub meet_on : (k : ℕ) (x : Pair) (s : List Pair) → met x s ≡ false → ended x ≡ false
      → meet a b (suc k) x s ≡ meet a b k (next a b x true) (meet a b k (next a b x false) s) ++ (x ∷ [])
  unfolding meet
  meet_on k x s e f = cond-false (met x s) s _ e ∙ ap (λ (l : List Pair). l ++ (x ∷ [])) (cond-false (ended x) s _ f)

  -- by cases on the step
  pub by_meet : (P : List Pair → Type 0) (k : ℕ) (x : Pair) (s : List Pair) → (met x s ≡ true → P s)
      → (met x s ≡ false → ended x ≡ true → P (s ++ (x ∷ [])))
      → (met x s ≡ false → ended x ≡ false → P (meet a b k (next a b x true) (meet a b k (next a b x false) s) ++ (x ∷ [])))
      → P (meet a b (suc k) x s)
  by_meet P k x s was end on = by_test (met x s)
      (λ e. subst P (sym (meet_met k x s e)) (was e))
      (λ e. by_test (ended x)
      (λ f. subst P (sym (meet_end k x s e f)) (end e f))
      (λ f. subst P (sym (meet_on k x s e f)) (on e f)))

  -- nothing is lost
  pub meet_longer : (k : ℕ) (x : Pair) (s : List Pair) → length s ≤ length (meet a b k x s)
  unfolding meet
  meet_longer zero x s = omega arith
  meet_longer (suc k) x s = by_meet (λ l. length s ≤ length l) k x s
      (λ e. omega arith)
      (λ e f. omega (arith, one_more s x))
      (λ e f.
      let l = meet a b k (next a b x false) s in
      let m = meet a b k (next a b x true) l in
      omega (arith, one_more m x, meet_longer k (next a b x false) s, meet_longer k (next a b x true) l))

  pub meet_keeps : (k : ℕ) (x : Pair) (s : List Pair) (y : Pair) → In y s → In y (meet a b k x s)
  unfolding meet
  meet_keeps zero x s y i = i
  meet_keeps (suc k) x s y i = by_meet (In y) k x s
      (λ e. i)
      (λ e f. in_left s (x ∷ []) i)
      (λ e f. in_left _ (x ∷ []) (meet_keeps k (next a b x true) _ y (meet_keeps k (next a b x false) s y i)))

  -- what was there stays at its place
  pub meet_prefix : (k : ℕ) (x : Pair) (s : List Pair) (i : ℕ) → i < length s → at (meet a b k x s) i ≡ at s i
  unfolding meet
  meet_prefix zero x s i l = refl
  meet_prefix (suc k) x s i l = by_meet (λ m. at m i ≡ at s i) k x s
      (λ e. refl)
      (λ e f. get_or-append s (x ∷ []) (pair 0 0) i l)
      (λ e f.
      let low = meet a b k (next a b x false) s in
      let high = meet a b k (next a b x true) low in
      let longer = meet_longer k (next a b x false) s in
      let longer' = meet_longer k (next a b x true) low in
      get_or-append high (x ∷ []) (pair 0 0) i (omega arith)
      ∙ meet_prefix k (next a b x true) low i (omega arith)
      ∙ meet_prefix k (next a b x false) s i l)

module _ (a b : List ℕ) (alike : Alike a b) where
  -- so far is far enough
  pub meet_enough : (k j : ℕ) (x : Pair) (s : List Pair) → Inside a b x → vars a < level_of a b x + k → vars a < level_of a b x + j
      → meet a b k x s ≡ meet a b j x s
  meet_enough zero j x s h m n = absurd (let l = level_most a b alike x h in omega arith)
  meet_enough (suc k) zero x s h m n = absurd (let l = level_most a b alike x h in omega arith)
  meet_enough (suc k) (suc j) x s h m n = by_test (met x s)
      (λ e. meet_met a b k x s e ∙ sym (meet_met a b j x s e))
      (λ e. by_test (ended x)
      (λ f. meet_end a b k x s e f ∙ sym (meet_end a b j x s e f))
      (λ f.
      let up = next_above a b alike x h f false in
      let up' = next_above a b alike x h f true in
      let low = meet_enough k j (next a b x false) s (next_in_lem a b alike x h false) (omega arith) (omega arith) in
      let high = meet_enough k j (next a b x true) (meet a b j (next a b x false) s) (next_in_lem a b alike x h true) (omega arith) (omega arith) in
      meet_on a b k x s e f
      ∙ ap (λ (l : List Pair). meet a b k (next a b x true) l ++ (x ∷ [])) low
      ∙ ap (λ (l : List Pair). l ++ (x ∷ [])) high
      ∙ sym (meet_on a b j x s e f)))

  -- the walk from a pair, by its own children
  pub from_on : (x : Pair) (s : List Pair) → Inside a b x → met x s ≡ false → ended x ≡ false
      → meet_from a b x s ≡ meet_from a b (next a b x true) (meet_from a b (next a b x false) s) ++ (x ∷ [])
  from_on x s h e f =
      let up = next_above a b alike x h f false in
      let up' = next_above a b alike x h f true in
      let low = meet_enough (vars a) (suc (vars a)) (next a b x false) s (next_in_lem a b alike x h false) (omega arith) (omega arith) in
      let high = meet_enough (vars a) (suc (vars a)) (next a b x true) (meet_from a b (next a b x false) s) (next_in_lem a b alike x h true) (omega arith) (omega arith) in
      meet_on a b (vars a) x s e f
      ∙ ap (λ (l : List Pair). meet a b (vars a) (next a b x true) l ++ (x ∷ [])) low
      ∙ ap (λ (l : List Pair). l ++ (x ∷ [])) high
