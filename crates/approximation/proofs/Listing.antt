-- What the checks of a list and of a count target say: 13 and 14 at the first place, 16 and 19.
use Prim.Native.Nat.{ℕ, ◌^◌, ◌≤◌, ◌<◌}
use mathlib.Core.Path.{◌≡◌, refl, sym, subst, ◌∙◌}
use mathlib.Core.Logic.{◌⊎◌, inl, inr}
use mathlib.Core.Bool.{Bool, true, false, and-false}
use mathlib.Core.List.{List, [], ◌∷◌}
use native.Mathlib.Omega.{arith}
use native.Mathlib.Decide.{dec_lt}
use lib.ListN.{length, get_or}
use lib.Dec.{leb, ltb}
use borrow.Author.Tests.{lt-ltb, le-ltb, le-leb, lt-leb, eq-eqb, ne_eqb, ltb-true, ltb-false, leb-true, leb-false}
use Rattle.diagram.specs.Diagram.{size, vars}
use Rattle.diagram.specs.Verdict.{Outcome, accepted, refused, row, first}
use Rattle.diagram.proofs.Tests.{by-eq}
use Rattle.diagram.proofs.Outcomes.{same_refusal, same_counts, never_both}
use Rattle.diagram.proofs.Count.{first_is, first_least, first_passes}
use Rattle.approximation.specs.Cut.{list_of, between, under_count_of, over_count_of}
use Rattle.approximation.specs.Demand2.{Each, FirstPlace, ListVerdict}

-- ---- a list

-- Every pointer names a node; every pointer names a non-terminal.
abbrev Inside : List ℕ → List ℕ → Type 0
Inside w list = Each list (λ p. p < size w)

abbrev Nodes : List ℕ → List ℕ → Type 0
Nodes w list = Each list (λ p. (2 ≤ p) × (p < size w))

module _ (w list : List ℕ) where
  abbrev beyond : ℕ → Bool
  beyond i = leb (size w) (get_or list i 0)

  abbrev terminal : ℕ → Bool
  terminal i = ltb (get_or list i 0) 2

  out_none : Inside w list → first beyond 0 (length list) ≡ length list
  out_none inside = first_is beyond 0 (length list) (length list) (omega arith) (omega arith)
      (λ j l h. lt-leb (size w) (get_or list j 0) (inside j h)) (λ h. absurd (omega arith))

  outside_refused : (i : ℕ) → FirstPlace list (λ p. size w ≤ p) i → list_of w list ≡ refused 13 i
  unfolding list_of row
  outside_refused i o =
      let place = o.place in
      let at : first beyond 0 (length list) ≡ i = first_is beyond 0 (length list) i (omega arith) (omega arith)
      (λ j l h. lt-leb (size w) (get_or list j 0) (let b = o.before j h in omega arith)) (λ h. le-leb (size w) (get_or list i 0) o.here) in
      rw (at, lt-ltb i (length list) place) refl

  terminal_refused : (i : ℕ) → Inside w list → FirstPlace list (λ p. p < 2) i → list_of w list ≡ refused 14 i
  unfolding list_of row
  terminal_refused i inside e =
      let place = e.place in
      let at : first terminal 0 (length list) ≡ i = first_is terminal 0 (length list) i (omega arith) (omega arith)
      (λ j l h. le-ltb (get_or list j 0) 2 (let b = e.before j h in omega arith)) (λ h. lt-ltb (get_or list i 0) 2 e.here) in
      rw (out_none inside, at, le-ltb (length list) (length list) (omega arith), lt-ltb i (length list) place) refl

  nodes_accepted : Nodes w list → list_of w list ≡ accepted (size w) (vars w)
  unfolding list_of row
  nodes_accepted nodes =
      let at : first terminal 0 (length list) ≡ length list = first_is terminal 0 (length list) (length list) (omega arith) (omega arith)
      (λ j l h. le-ltb (get_or list j 0) 2 (nodes j h).0) (λ h. absurd (omega arith)) in
      rw (out_none (λ j h. (nodes j h).1), at, le-ltb (length list) (length list) (omega arith)) refl

  -- One of the three holds.
  by_list : {C : Type 0} → ((i : ℕ) → FirstPlace list (λ p. size w ≤ p) i → C)
      → ((i : ℕ) → Inside w list → FirstPlace list (λ p. p < 2) i → C) → (Nodes w list → C) → C
  by_list {C} thirteen fourteen fine = elim (dec_lt (first beyond 0 (length list)) (length list)) [
    | yes h ↦ thirteen (first beyond 0 (length list)) (record {
      place = h;
      here = leb-true (size w) (get_or list (first beyond 0 (length list)) 0) (first_passes beyond 0 (length list) (omega arith));
      before = λ j l p. let b = leb-false (size w) (get_or list j 0) (first_least beyond 0 (length list) j (omega arith) l) in omega arith;
    })
    | no h ↦ rest (λ j l. leb-false (size w) (get_or list j 0) (first_least beyond 0 (length list) j (omega arith) (omega arith)))
  ]
    where
      rest : Inside w list → C
      rest inside = elim (dec_lt (first terminal 0 (length list)) (length list)) [
        | yes h ↦ fourteen (first terminal 0 (length list)) inside (record {
          place = h;
          here = ltb-true (get_or list (first terminal 0 (length list)) 0) 2 (first_passes terminal 0 (length list) (omega arith));
          before = λ j l p. let b = ltb-false (get_or list j 0) 2 (first_least terminal 0 (length list) j (omega arith) l) in omega arith;
        })
        | no h ↦ fine (λ j l. (
          ltb-false (get_or list j 0) 2 (first_least terminal 0 (length list) j (omega arith) (omega arith)),
          inside j l,
        ))
      ]

  -- So each outcome is given exactly then.
  pub list_accepted : (n v : ℕ) → list_of w list ≡ accepted n v → Nodes w list
  list_accepted n v e = by_list
      (λ i o. absurd (never_both (outside_refused i o) e))
      (λ i inside o. absurd (never_both (terminal_refused i inside o) e))
      (λ a. a)

  thirteen_is : (i : ℕ) → list_of w list ≡ refused 13 i → FirstPlace list (λ p. size w ≤ p) i
  thirteen_is i e = by_list
      (λ j o. subst (FirstPlace list (λ p. size w ≤ p)) (same_refusal (outside_refused j o) e).1 o)
      (λ j inside o. let s = (same_refusal (terminal_refused j inside o) e).0 in absurd (omega arith))
      (λ a. absurd (never_both e (nodes_accepted a)))

  fourteen_is : (i : ℕ) → list_of w list ≡ refused 14 i → Inside w list × FirstPlace list (λ p. p < 2) i
  fourteen_is i e = by_list
      (λ j o. let s = (same_refusal (outside_refused j o) e).0 in absurd (omega arith))
      (λ j inside o. (inside, subst (FirstPlace list (λ p. p < 2)) (same_refusal (terminal_refused j inside o) e).1 o))
      (λ a. absurd (never_both e (nodes_accepted a)))

  refused_is : (number place : ℕ) → list_of w list ≡ refused number place → (number ≡ 13) ⊎ (number ≡ 14)
  refused_is number place e = by_list
      (λ j o. inl (sym (same_refusal (outside_refused j o) e).0))
      (λ j inside o. inr (sym (same_refusal (terminal_refused j inside o) e).0))
      (λ a. absurd (never_both e (nodes_accepted a)))

none_listed : (list : List ℕ) → (0 < length list → ⊥) → list ≡ []
none_listed [] h = refl
none_listed (p ∷ list) h = absurd (h (omega arith))

pub list_verdict : (w list : List ℕ) → ListVerdict w list
list_verdict w list = record {
  accepts = λ n v. (
    (λ e.
        let nodes = list_accepted w list n v e in
        let same = same_counts e (nodes_accepted w list nodes) in
        (nodes, same.0, same.1)),
    (λ a. rw (a.1, a.2) (nodes_accepted w list a.0)),
  );
  refuses = refused_is w list;
  thirteen = λ i. (thirteen_is w list i, outside_refused w list i);
  fourteen = λ i. (fourteen_is w list i, λ a. terminal_refused w list i a.0 a.1);
  constants = λ few e. none_listed list (λ some.
      let node = list_accepted w list (size w) (vars w) e 0 some in
      omega arith);
}

-- ---- a count target

row_own : (number : ℕ) (test : Bool) (place : ℕ) (below : Outcome) {n v : ℕ} → row number test place below ≡ accepted n v → row number test place below ≡ below
unfolding row
row_own number true place below e = absurd (never_both refl e)
row_own number false place below e = refl

module _ (w : List ℕ) (k : ℕ) where
  between_yes : 0 < k → k < 2 ^ vars w → between w k ≡ true
  unfolding between
  between_yes a b = rw (lt-ltb 0 k a, lt-ltb k (2 ^ vars w) b) refl

  between_low : k ≡ 0 → between w k ≡ false
  unfolding between
  between_low e = rw (le-ltb 0 k (omega arith)) refl

  between_high : 2 ^ vars w ≤ k → between w k ≡ false
  unfolding between
  between_high h = rw (le-ltb k (2 ^ vars w) h, and-false (ltb 0 k)) refl

  outside : (0 < k → k < 2 ^ vars w → ⊥) → between w k ≡ false
  outside none = by-eq k 0 between_low (λ ne. between_high (elim (dec_lt k (2 ^ vars w)) [
    | yes h ↦ absurd (none (omega arith) h)
    | no h ↦ omega arith
  ]))

  pub under_refused_19 : size w ≡ 2 → 0 < k → k < 2 ^ vars w → under_count_of w k ≡ refused 19 0
  unfolding under_count_of row
  under_refused_19 n a b = rw (between_yes a b, eq-eqb (size w) 2 n) refl

  pub over_refused_16 : 2 ^ vars w < k → over_count_of w k ≡ refused 16 0
  unfolding over_count_of row
  over_refused_16 h = rw (lt-ltb (2 ^ vars w) k h) refl

  pub over_refused_19 : size w ≡ 1 → 0 < k → k < 2 ^ vars w → over_count_of w k ≡ refused 19 0
  unfolding over_count_of row
  over_refused_19 n a b = rw (le-ltb (2 ^ vars w) k (omega arith), between_yes a b, eq-eqb (size w) 1 n) refl

  pub under_open_accepted : (size w ≡ 2 → 0 < k → k < 2 ^ vars w → ⊥) → under_count_of w k ≡ accepted (size w) (vars w)
  unfolding under_count_of row
  under_open_accepted open-target = by-eq (size w) 2
      (λ n. rw (outside (open-target n)) refl)
      (λ n. rw (ne_eqb (size w) 2 n, and-false (between w k)) refl)

  pub over_open_accepted : k ≤ 2 ^ vars w → (size w ≡ 1 → 0 < k → k < 2 ^ vars w → ⊥) → over_count_of w k ≡ accepted (size w) (vars w)
  unfolding over_count_of row
  over_open_accepted most open-target = rw (le-ltb (2 ^ vars w) k most) (by-eq (size w) 1
      (λ n. rw (outside (open-target n)) refl)
      (λ n. rw (ne_eqb (size w) 1 n, and-false (between w k)) refl))

  -- An acceptance has the diagram's own counts.
  pub under_count_own : {n v : ℕ} → under_count_of w k ≡ accepted n v → under_count_of w k ≡ accepted (size w) (vars w)
  unfolding under_count_of
  under_count_own e = row_own _ _ _ _ e

  pub over_count_own : {n v : ℕ} → over_count_of w k ≡ accepted n v → over_count_of w k ≡ accepted (size w) (vars w)
  unfolding over_count_of
  over_count_own e = let f = row_own _ _ _ _ e in f ∙ row_own _ _ _ _ (sym f ∙ e)

  -- It tells that the target is not strictly between 0 and 2^v where the array has two nodes (under), or one
  -- (over), and that it is not above 2^v (over).
  pub under_accepted_open : under_count_of w k ≡ accepted (size w) (vars w) → size w ≡ 2 → 0 < k → k < 2 ^ vars w → ⊥
  under_accepted_open e n a b = never_both (under_refused_19 n a b) e

  pub over_accepted_open : over_count_of w k ≡ accepted (size w) (vars w) → size w ≡ 1 → 0 < k → k < 2 ^ vars w → ⊥
  over_accepted_open e n a b = never_both (over_refused_19 n a b) e

  pub over_accepted_most : over_count_of w k ≡ accepted (size w) (vars w) → k ≤ 2 ^ vars w
  over_accepted_most e = elim (dec_lt (2 ^ vars w) k) [
    | yes h ↦ absurd (never_both (over_refused_16 h) e)
    | no h ↦ omega arith
  ]
