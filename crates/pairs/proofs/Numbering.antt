-- The pairs that the walk meets are those that are reached, each once; and how many they can be.
use Prim.Native.Nat.{ℕ, zero, suc, ◌+◌, ◌≤◌, ◌<◌}
use mathlib.Core.Path.{◌≡◌, refl, sym, subst}
use mathlib.Core.Logic.{◌⊎◌, inl, inr, ⊎_elim}
use mathlib.Core.Bool.{Bool, true, false, ◌||◌}
use mathlib.Core.List.{List, [], ◌∷◌, ◌++◌}
use native.Mathlib.Omega.{arith}
use lib.ListN.{length}
use lib.Dec.{eqb}
use borrow.Author.Tests.{eqb-true, eq-eqb, ne_eqb}
use Rattle.diagram.specs.Diagram.{vars}
use Rattle.diagram.specs.Marking.{count}
use Rattle.diagram.proofs.Tests.{by_test, not_both, or_cases, or_left}
use Rattle.diagram.proofs.Count.{count_most, count_less}
use Rattle.counts.specs.Counting.{In, here, there, Once, none, more}
use Rattle.counts.proofs.Turns.{not_in, in_one, in_append, in_left, in_right, once_append}
use Rattle.pairs.specs.Pairs.{max_pairs, Pair, level_of, next, ended, roots, Reached, start, step, met, meet, all_of, pairs_of}
use Rattle.pairs.specs.Table.{key_of, Alike}
use Rattle.pairs.specs.Walks.{Walks}
use Rattle.pairs.proofs.Levels.{Inside, going, goes, roots_in, level_most, next_in_lem, next_above}
use Rattle.pairs.proofs.Meeting.{met_in, in_met, by_meet, meet_keeps}
use Rattle.pairs.proofs.Walking.{key_tells}

module _ (a b : List ℕ) (alike : Alike a b) where
  -- ---- what is met is reached

  reached_in_lem : {x : Pair} → Reached a b x → Inside a b x
  reached_in_lem start = roots_in a b alike
  reached_in_lem (step {x = x} r go bit) = next_in_lem a b alike x (reached_in_lem r) bit

  meet_right : (k : ℕ) (x : Pair) (s : List Pair) → Reached a b x → ((y : Pair) → In y s → Reached a b y)
      → (y : Pair) → In y (meet a b k x s) → Reached a b y
  unfolding meet
  meet_right zero x s r h y = λ i. h y i
  meet_right (suc k) x s r h y = by_meet a b (λ l. In y l → Reached a b y) k x s
      (λ e i. h y i)
      (λ e f i. ⊎_elim (λ j. h y j) (λ j. subst (Reached a b) (sym (in_one j)) r) (in_append s (x ∷ []) i))
      (λ e f i. ⊎_elim
      (λ j.
      meet_right k (next a b x true) _ (step r (going x f) true)
      (meet_right k (next a b x false) s (step r (going x f) false) h) y j)
      (λ j. subst (Reached a b) (sym (in_one j)) r)
      (in_append _ (x ∷ []) i))

  -- ---- no pair is met twice: those that are added stand at no smaller variable

  meet_levels : (k : ℕ) (x : Pair) (s : List Pair) → Inside a b x → (y : Pair) → In y (meet a b k x s) → In y s ⊎ (level_of a b x ≤ level_of a b y)
  unfolding meet
  meet_levels zero x s h y = λ i. inl i
  meet_levels (suc k) x s h y = by_meet a b (λ l. In y l → In y s ⊎ (level_of a b x ≤ level_of a b y)) k x s
      (λ e i. inl i)
      (λ e f i. ⊎_elim (λ j. inl j) (λ j. inr (own (in_one j))) (in_append s (x ∷ []) i))
      (λ e f i. ⊎_elim
      (λ j. ⊎_elim
      (λ j'. ⊎_elim (λ j''. inl j'') (λ l. inr (above f false l)) (meet_levels k (next a b x false) s (next_in_lem a b alike x h false) y j'))
      (λ l. inr (above f true l))
      (meet_levels k (next a b x true) (meet a b k (next a b x false) s) (next_in_lem a b alike x h true) y j))
      (λ j. inr (own (in_one j)))
      (in_append _ (x ∷ []) i))
    where
      own : y ≡ x → level_of a b x ≤ level_of a b y
      own e = rw e (omega arith)

      above : ended x ≡ false → (bit : Bool) → level_of a b (next a b x bit) ≤ level_of a b y → level_of a b x ≤ level_of a b y
      above f bit l = let up = next_above a b alike x h f bit in omega arith

  once_one : (x : Pair) → Once (x ∷ [])
  once_one x = more not_in none

  once_more : (l : List Pair) (x : Pair) → Once l → (In x l → ⊥) → Once (l ++ (x ∷ []))
  once_more l x o new = once_append l (x ∷ []) o (once_one x) (λ y i j. new (subst (λ (z : Pair). In z l) (in_one j) i))

  meet_once : (k : ℕ) (x : Pair) (s : List Pair) → Inside a b x → Once s → Once (meet a b k x s)
  unfolding meet
  meet_once zero x s h o = o
  meet_once (suc k) x s h o = by_meet a b Once k x s
      (λ e. o)
      (λ e f. once_more s x o (absent e))
      (λ e f.
      let low : List Pair = meet a b k (next a b x false) s in
      let once-low = meet_once k (next a b x false) s (next_in_lem a b alike x h false) o in
      once_more (meet a b k (next a b x true) low) x (meet_once k (next a b x true) low (next_in_lem a b alike x h true) once-low) (λ i.
      ⊎_elim
      (λ j. ⊎_elim (absent e) (above f false) (meet_levels k (next a b x false) s (next_in_lem a b alike x h false) x j))
      (above f true)
      (meet_levels k (next a b x true) low (next_in_lem a b alike x h true) x i)))
    where
      absent : met x s ≡ false → In x s → ⊥
      absent e i = not_both (met x s) (in_met x s i) e

      above : ended x ≡ false → (bit : Bool) → level_of a b (next a b x bit) ≤ level_of a b x → ⊥
      above f bit l = let up = next_above a b alike x h f bit in omega arith

  -- ---- what is reached is met: the children of those that were met were met

  meet_has : (k : ℕ) (x : Pair) (s : List Pair) → Inside a b x → vars a < level_of a b x + k → In x (meet a b k x s)
  meet_has zero x s h far = absurd (let l = level_most a b alike x h in omega arith)
  meet_has (suc k) x s h far = by_meet a b (In x) k x s
      (λ e. met_in x s e)
      (λ e f. in_right s (x ∷ []) here)
      (λ e f. in_right (meet a b k (next a b x true) (meet a b k (next a b x false) s)) (x ∷ []) here)

  pub Closed : List Pair → Type 0
  Closed s = (y : Pair) → In y s → ended y ≡ false → (bit : Bool) → In (next a b y bit) s

  closed_more : (l : List Pair) (x : Pair) → Closed l → (ended x ≡ false → (bit : Bool) → In (next a b x bit) l) → Closed (l ++ (x ∷ []))
  unfolding Closed
  closed_more l x c h y i f bit = in_left l (x ∷ []) (⊎_elim
      (λ j. c y j f bit)
      (λ j. let e = in_one j in rw e (h (rw e at f) bit))
      (in_append l (x ∷ []) i))

  meet_closed : (k : ℕ) (x : Pair) (s : List Pair) → Inside a b x → vars a < level_of a b x + k → Closed s → Closed (meet a b k x s)
  meet_closed zero x s h far c = absurd (let l = level_most a b alike x h in omega arith)
  meet_closed (suc k) x s h far c = by_meet a b Closed k x s
      (λ e. c)
      (λ e f. closed_more s x c (λ g bit. absurd (not_both (ended x) f g)))
      (λ e f.
      let up = next_above a b alike x h f false in
      let up' = next_above a b alike x h f true in
      let low : List Pair = meet a b k (next a b x false) s in
      let in-low = next_in_lem a b alike x h false in
      let in-high = next_in_lem a b alike x h true in
      let closed-low = meet_closed k (next a b x false) s in-low (omega arith) c in
      closed_more (meet a b k (next a b x true) low) x (meet_closed k (next a b x true) low in-high (omega arith) closed-low) (λ g.
      both (λ bit. In (next a b x bit) (meet a b k (next a b x true) low))
      (meet_keeps a b k (next a b x true) low (next a b x false) (meet_has k (next a b x false) s in-low (omega arith)))
      (meet_has k (next a b x true) low in-high (omega arith))))
    where
      both : (P : Bool → Type 0) → P false → P true → (bit : Bool) → P bit
      both P p q false = p
      both P p q true = q

  all_has : In (roots a b) (all_of a b)
  all_has = meet_has (suc (vars a)) (roots a b) [] (roots_in a b alike) (omega arith)

  all_closed : Closed (all_of a b)
  unfolding Closed
  all_closed = meet_closed (suc (vars a)) (roots a b) [] (roots_in a b alike) (omega arith) (λ y i. absurd (not_in i))

  all_met : (y : Pair) → Reached a b y → In y (all_of a b)
  unfolding Closed
  all_met y start = all_has
  all_met y (step {x = x} r go bit) = all_closed x (all_met x r) (goes x go) bit

  all_once : Once (all_of a b)
  all_once = meet_once (suc (vars a)) (roots a b) [] (roots_in a b alike) none

  pub all_right : (y : Pair) → In y (all_of a b) → Reached a b y
  all_right = meet_right (suc (vars a)) (roots a b) [] start (λ y i. absurd (not_in i))

  pub all_in : (y : Pair) → In y (all_of a b) → Inside a b y
  all_in y i = reached_in_lem (all_right y i)

-- ---- how many there can be: no more than there are numbers below n, where each has a number of its own below n

module _ (key : Pair → ℕ) where
  has_key : List Pair → ℕ → Bool
  has_key [] k = false
  has_key (x ∷ s) k = eqb (key x) k || has_key s k

  has_told : (s : List Pair) (k : ℕ) → has_key s k ≡ true → (x : Pair) × In x s × (key x ≡ k)
  unfolding has_key
  has_told [] k e = absurd (not_both false e refl)
  has_told (x ∷ s) k e = or_cases (eqb (key x) k) (has_key s k) e
      (λ t. (x, here, eqb-true (key x) k t))
      (λ t. let r = has_told s k t in (r.0, there r.1, r.2))

  none_has : (n : ℕ) → count n (has_key []) ≡ 0
  unfolding count has_key
  none_has zero = refl
  none_has (suc n) = none_has n

  -- pairs of a list have numbers of their own
  Own : List Pair → Type 0
  Own s = (x y : Pair) → In x s → In y s → key x ≡ key y → x ≡ y

  module _ (x : Pair) (s : List Pair) (new : In x s → ⊥) (own : Own (x ∷ s)) where
    has_front : has_key (x ∷ s) (key x) ≡ true
    unfolding has_key
    has_front = or_left (eqb (key x) (key x)) (has_key s (key x)) (eq-eqb (key x) (key x) refl)

    has_not : has_key s (key x) ≡ false
    unfolding Own
    has_not = by_test (has_key s (key x))
        (λ e.
        let r = has_told s (key x) e in
        let same = own r.0 x (there r.1) here r.2 in
        absurd (new (subst (λ (z : Pair). In z s) same r.1)))
        (λ e. e)

    has_other : (k : ℕ) → (k ≡ key x → ⊥) → has_key (x ∷ s) k ≡ has_key s k
    unfolding has_key
    has_other k ne = rw (ne_eqb (key x) k (λ e. ne (sym e))) refl

  few_pairs : (n : ℕ) (s : List Pair) → Once s → ((x : Pair) → In x s → key x < n) → Own s → length s ≡ count n (has_key s)
  unfolding Own
  few_pairs n [] o small own = sym (none_has n)
  few_pairs n (x ∷ s) (more new o) small own =
      let rest = few_pairs n s o (λ y i. small y (there i)) (λ y z i j. own y z (there i) (there j)) in
      let one = count_less n (has_key (x ∷ s)) (has_key s) (key x) (small x here) (has_front x s new own) (has_not x s new own) (λ k l. has_other x s new own k) in
      omega arith

  pub few_by : (n : ℕ) (a b : List ℕ) → Alike a b → ((x : Pair) → Inside a b x → key x < n)
      → ((x y : Pair) → Inside a b x → Inside a b y → key x ≡ key y → x ≡ y) → pairs_of a b ≤ n
  unfolding Own
  few_by n a b alike small own =
      let is = few_pairs n (all_of a b) (all_once a b alike) (λ x i. small x (all_in a b alike x i)) (λ x y i j. own x y (all_in a b alike x i) (all_in a b alike y j)) in
      let most = count_most n (has_key (all_of a b)) in
      omega arith

pub walks : Walks
walks = record {
  pairs = λ a b first second same.
      let alike : Alike a b = record { first = first; second = second; variables = same } in
      record {
        list = all_of a b;
        count = refl;
        once = all_once a b alike;
        right = all_right a b alike;
        all = all_met a b alike;
      };
  few = λ a b first second same.
      few_by key_of max_pairs a b (record { first = first; second = second; variables = same })
      (λ x h. omega (arith, h.first, h.second, first.formed.few, second.formed.few))
      (λ x y h g. key_tells x y (omega (arith, h.second, second.formed.few)) (omega (arith, g.second, second.formed.few)));
}
