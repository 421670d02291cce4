-- The verdicts of the operations, row by row: what each answer comes to, and which numbers a refusal may have.
use Prim.Native.Nat.{ℕ, ◌≤◌, ◌<◌}
use mathlib.Core.Path.{◌≡◌, refl, sym, ap, ◌∙◌}
use mathlib.Core.Logic.{◌≢◌, ⊎_elim}
use mathlib.Core.Bool.{Bool, true, false, not}
use mathlib.Core.List.{List}
use native.Mathlib.Omega.{arith}
use lib.ListN.{get_or}
use lib.Dec.{leb, ltb, eqb}
use borrow.Author.Tests.{le-leb, lt-leb, lt-ltb, le-ltb, ltb-false, eq-eqb, ne_eqb}
use Rattle.diagram.specs.Diagram.{size, vars}
use Rattle.diagram.specs.Verdict.{Outcome, accepted, refused, row, and_then, verdict_of}
use Rattle.diagram.specs.declared.verdict.Output.TheVariants.{Nothing}
use Rattle.diagram.proofs.Outcomes.{never_both}
use Rattle.diagram.proofs.Meaning.{both_accept}
use Rattle.diagram.proofs.Promised.{demand1}
use Rattle.pool.specs.Pool.{slot_count, is_pool, needs}
use Rattle.pool.specs.Answers.{place_of, with_added, with_dropped, add_of, live_of, drop_of, roomed_of, read_of}

-- ---- rows

pub row_on : (number place : ℕ) (test : Bool) (below : Outcome) → test ≡ true → row number test place below ≡ refused number place
unfolding row
row_on number place test below e = rw e refl

pub row_off : (number place : ℕ) (test : Bool) (below : Outcome) → test ≡ false → row number test place below ≡ below
unfolding row
row_off number place test below e = rw e refl

-- What comes behind a row.
then_row : (number : ℕ) (test : Bool) (place : ℕ) (below next : Outcome) → and_then (row number test place below) next ≡ row number test place (and_then below next)
unfolding row
then_row number true place below next = refl
then_row number false place below next = refl

pub by_outcome : {C : Type 0} (o : Outcome) → ((n v : ℕ) → o ≡ accepted n v → C) → ((k p : ℕ) → o ≡ refused k p → C) → C
by_outcome (accepted n v) f g = f n v refl
by_outcome (refused k p) f g = g k p refl

-- ---- which numbers a refusal may have

abbrev pub Below : ℕ → Outcome → Type 0
Below most o = (k p : ℕ) → o ≡ refused k p → k < most

pub accepted_below : (most n v : ℕ) → Below most (accepted n v)
accepted_below most n v k p e = absurd (never_both e refl)

pub row_below : (most number : ℕ) (test : Bool) (place : ℕ) {below : Outcome} → number < most → Below most below → Below most (row number test place below)
unfolding row
row_below most number true place h rest k p e = let same : number ≡ k = cc in omega arith
row_below most number false place h rest k p e = rest k p e

pub then_below : (most : ℕ) (a : Outcome) {b : Outcome} → Below most a → Below most b → Below most (and_then a b)
then_below most (accepted n v) first rest = rest
then_below most (refused k p) first rest = first

-- A diagram's own refusals have smaller numbers than a pool's.
pub own_below : (w : List ℕ) (room : ℕ) → Below 33 (verdict_of w Nothing room)
own_below w room k p e = ⊎_elim (λ i. omega (arith, i.1)) (λ i. omega arith) (demand1.refuses w Nothing room k p e)

-- ---- adding

module _ (t s w : List ℕ) (k : ℕ) where
  -- 36, behind the rest.
  unfoldable pub roomVerdict : Outcome
  roomVerdict =
      row 36 (ltb (size t) (needs (vars t) (with_added t s w k))) 0
      (accepted (needs (vars t) (with_added t s w k)) (vars t))

  pub no_slot : slot_count ≤ k → (place_of t s w k) ≡ refused 33 0
  unfolding place_of
  no_slot h = row_on 33 0 (leb slot_count k) _ (le-leb slot_count k h)

  module _ (slot : k < slot_count) where
    pub slot_taken : get_or s k 0 ≢ 0 → (place_of t s w k) ≡ refused 34 0
    unfolding place_of
    slot_taken taken =
        row_off 33 0 (leb slot_count k) _ (lt-leb slot_count k slot)
        ∙ row_on 34 0 (not (eqb (get_or s k 0) 0)) _ (ap not (ne_eqb (get_or s k 0) 0 taken))

    module _ (free : get_or s k 0 ≡ 0) where
      pub other_vars : vars w ≢ vars t → (place_of t s w k) ≡ refused 35 0
      unfolding place_of
      other_vars differ =
          row_off 33 0 (leb slot_count k) _ (lt-leb slot_count k slot)
          ∙ row_off 34 0 (not (eqb (get_or s k 0) 0)) _ (ap not (eq-eqb (get_or s k 0) 0 free))
          ∙ row_on 35 0 (not (eqb (vars w) (vars t))) _ (ap not (ne_eqb (vars w) (vars t) differ))

      pub slot_ready : vars w ≡ vars t → (place_of t s w k) ≡ roomVerdict
      unfolding place_of roomVerdict
      slot_ready same =
          row_off 33 0 (leb slot_count k) _ (lt-leb slot_count k slot)
          ∙ row_off 34 0 (not (eqb (get_or s k 0) 0)) _ (ap not (eq-eqb (get_or s k 0) 0 free))
          ∙ row_off 35 0 (not (eqb (vars w) (vars t))) _ (ap not (eq-eqb (vars w) (vars t) same))

  pub room_over : size t < needs (vars t) (with_added t s w k) → roomVerdict ≡ refused 36 0
  unfolding roomVerdict
  room_over over = row_on 36 0 (ltb (size t) (needs (vars t) (with_added t s w k))) _ (lt-ltb (size t) (needs (vars t) (with_added t s w k)) over)

  pub room_fits : needs (vars t) (with_added t s w k) ≤ size t → roomVerdict ≡ accepted (needs (vars t) (with_added t s w k)) (vars t)
  unfolding roomVerdict
  room_fits fits = row_off 36 0 (ltb (size t) (needs (vars t) (with_added t s w k))) _ (le-ltb (size t) (needs (vars t) (with_added t s w k)) fits)

  slot_below : Below 46 (place_of t s w k)
  unfolding place_of
  slot_below =
      row_below 46 33 _ 0 (omega arith)
      (row_below 46 34 _ 0 (omega arith)
      (row_below 46 35 _ 0 (omega arith)
      (row_below 46 36 _ 0 (omega arith)
      (accepted_below 46 _ _))))

  module _ (room : ℕ) where
    pub add_rows : add_of t s w room k ≡ row 46 (not (is_pool t s)) 0 (and_then (verdict_of w Nothing room) (place_of t s w k))
    unfolding add_of
    add_rows = refl

    pub add_no_pool : is_pool t s ≡ false → add_of t s w room k ≡ refused 46 0
    add_no_pool e = add_rows ∙ row_on 46 0 (not (is_pool t s)) _ (ap not e)

    pub add_pool : is_pool t s ≡ true → add_of t s w room k ≡ and_then (verdict_of w Nothing room) (place_of t s w k)
    add_pool e = add_rows ∙ row_off 46 0 (not (is_pool t s)) _ (ap not e)

    pub add_own : {number place : ℕ} → is_pool t s ≡ true → verdict_of w Nothing room ≡ refused number place → add_of t s w room k ≡ refused number place
    add_own e own = add_pool e ∙ ap (λ (o : Outcome). and_then o (place_of t s w k)) own

    pub add_slot : {n v : ℕ} → is_pool t s ≡ true → verdict_of w Nothing room ≡ accepted n v → add_of t s w room k ≡ (place_of t s w k)
    add_slot e own = add_pool e ∙ ap (λ (o : Outcome). and_then o (place_of t s w k)) own

    pub add_below : Below 46 (and_then (verdict_of w Nothing room) (place_of t s w k))
    add_below = then_below 46 (verdict_of w Nothing room) (λ number place e. let h = own_below w room number place e in omega arith) slot_below

-- ---- a live slot

module _ (t s : List ℕ) (k n : ℕ) where
  pub live_no_pool : is_pool t s ≡ false → live_of t s k n ≡ refused 46 0
  unfolding live_of
  live_no_pool e = row_on 46 0 (not (is_pool t s)) _ (ap not e)

  pub live_no_slot : is_pool t s ≡ true → slot_count ≤ k → live_of t s k n ≡ refused 33 0
  unfolding live_of
  live_no_slot e h = row_off 46 0 (not (is_pool t s)) _ (ap not e) ∙ row_on 33 0 (leb slot_count k) _ (le-leb slot_count k h)

  pub live_empty : is_pool t s ≡ true → k < slot_count → get_or s k 0 ≡ 0 → live_of t s k n ≡ refused 34 0
  unfolding live_of
  live_empty e h none =
      row_off 46 0 (not (is_pool t s)) _ (ap not e)
      ∙ row_off 33 0 (leb slot_count k) _ (lt-leb slot_count k h)
      ∙ row_on 34 0 (eqb (get_or s k 0) 0) _ (eq-eqb (get_or s k 0) 0 none)

  pub live_there : is_pool t s ≡ true → k < slot_count → get_or s k 0 ≢ 0 → live_of t s k n ≡ accepted n (vars t)
  unfolding live_of
  live_there e h some =
      row_off 46 0 (not (is_pool t s)) _ (ap not e)
      ∙ row_off 33 0 (leb slot_count k) _ (lt-leb slot_count k h)
      ∙ row_off 34 0 (eqb (get_or s k 0) 0) _ (ne_eqb (get_or s k 0) 0 some)

-- ---- 46 comes first

-- The rows of a live slot behind 46.
abbrev slot_rows : (t s : List ℕ) (k n : ℕ) → Outcome
slot_rows t s k n = row 33 (leb slot_count k) 0 (row 34 (eqb (get_or s k 0) 0) 0 (accepted n (vars t)))

slot_rows_below : (t s : List ℕ) (k n : ℕ) → Below 46 (slot_rows t s k n)
slot_rows_below t s k n = row_below 46 33 _ 0 (omega arith) (row_below 46 34 _ 0 (omega arith) (accepted_below 46 _ _))

-- An outcome is 46, by the pool's check, or what is below.
pub record First (t s : List ℕ) (o : Outcome) : Type 0 where
  pub rest : Outcome
  pub is : o ≡ row 46 (not (is_pool t s)) 0 rest
  pub small : Below 46 rest

pub add_first : (t s w : List ℕ) (room k : ℕ) → First t s (add_of t s w room k)
add_first t s w room k = record { rest = and_then (verdict_of w Nothing room) (place_of t s w k); is = add_rows t s w k room; small = add_below t s w k room }

pub live_first : (t s : List ℕ) (k n : ℕ) → First t s (live_of t s k n)
unfolding live_of
live_first t s k n = record { rest = slot_rows t s k n; is = refl; small = slot_rows_below t s k n }

pub drop_first : (t s : List ℕ) (k : ℕ) → First t s (drop_of t s k)
unfolding drop_of
drop_first t s k = live_first t s k (needs (vars t) (with_dropped t s k))

then_first : (t s : List ℕ) {o : Outcome} (next : Outcome) → Below 46 next → First t s o → First t s (and_then o next)
then_first t s {o} next small f = record {
  rest = and_then f.rest next;
  is = ap (λ (x : Outcome). and_then x next) f.is ∙ then_row 46 (not (is_pool t s)) 0 f.rest next;
  small = then_below 46 f.rest f.small small;
}

pub read_first : (t s : List ℕ) (k room out : ℕ) → First t s (read_of t s k room out)
unfolding read_of roomed_of
read_first t s k room out =
    then_first t s _ (row_below 46 4 _ 0 (omega arith) (accepted_below 46 _ _))
    (then_first t s _ (row_below 46 5 _ 0 (omega arith) (accepted_below 46 _ _)) (live_first t s k (size t)))

-- ---- what an acceptance tells

row_passed : (number : ℕ) (test : Bool) (place : ℕ) (below : Outcome) {n v : ℕ} → row number test place below ≡ accepted n v
    → (test ≡ false) × (below ≡ accepted n v)
unfolding row
row_passed number true place below e = absurd (never_both refl e)
row_passed number false place below e = (refl, e)

-- An addition that is answered fits, whatever table and slots are.
pub added_fits : (t s w : List ℕ) (room k : ℕ) {n v : ℕ} → add_of t s w room k ≡ accepted n v → needs (vars t) (with_added t s w k) ≤ size t
unfolding place_of
added_fits t s w room k {n} {v} e =
    let pool = (row_passed 46 (not (is_pool t s)) 0 (and_then (verdict_of w Nothing room) (place_of t s w k)) (sym (add_rows t s w k room) ∙ e)).1 in
    let own = (both_accept (verdict_of w Nothing room) (place_of t s w k) n v pool).1 in
    let slot = (row_passed 33 (leb slot_count k) 0 _ own).1 in
    let free = (row_passed 34 (not (eqb (get_or s k 0) 0)) 0 _ slot).1 in
    let same = (row_passed 35 (not (eqb (vars w) (vars t))) 0 _ free).1 in
    ltb-false (size t) (needs (vars t) (with_added t s w k)) (row_passed 36 (ltb (size t) (needs (vars t) (with_added t s w k))) 0 _ same).0
