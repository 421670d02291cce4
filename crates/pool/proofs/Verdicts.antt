-- When a verdict is given, in document 02's words: 46, 36 and an acceptance of an addition, and what a live slot is told. `test` says that the
-- test of a pool tells a well-formed one.
use Prim.Native.Nat.{ℕ, ◌≤◌, ◌<◌}
use mathlib.Core.Path.{◌≡◌, refl, sym, ap, ◌∙◌}
use mathlib.Core.Logic.{◌↔◌, ◌≢◌}
use mathlib.Core.Bool.{true, false, not}
use mathlib.Core.List.{List}
use native.Mathlib.Omega.{arith}
use lib.ListN.{get_or}
use lib.Dec.{leb, ltb}
use borrow.Author.Tests.{leb-true, leb-false, ltb-true, ltb-false}
use Rattle.diagram.specs.Diagram.{size, vars}
use Rattle.diagram.specs.Verdict.{Outcome, accepted, refused, short, verdict_of}
use Rattle.diagram.specs.declared.verdict.Output.TheVariants.{Nothing}
use Rattle.diagram.proofs.Tests.{by_test, by-eq, not_both}
use Rattle.diagram.proofs.Outcomes.{same_refusal, same_counts, never_both}
use Rattle.diagram.proofs.Meaning.{verdict_accepted, accepted_verdict}
use Rattle.pool.specs.Pool.{slot_count, Live, WellFormed, is_pool, needs}
use Rattle.pool.specs.Answers.{with_added, with_dropped, add_of, drop_of}
use Rattle.pool.specs.Pools.{Addable}
use Rattle.pool.proofs.Rows.{by_outcome, row_on, row_off, First, own_below, roomVerdict, no_slot, slot_taken, other_vars, slot_ready, room_over, room_fits, add_no_pool, add_own, add_slot, live_there}

no_output : (w : List ℕ) → short w Nothing ≡ false
unfolding short
no_output w = refl

abbrev pub Tested : Type 0
Tested = (t s : List ℕ) → (is_pool t s ≡ true) ↔ WellFormed t s

module _ (test : Tested) where
  -- ---- the pool

  no_pool : (t s : List ℕ) → is_pool t s ≡ false → ¬ WellFormed t s
  no_pool t s e f = not_both (is_pool t s) ((test t s).1 f) e

  pub is_46 : (t s : List ℕ) {o : Outcome} → First t s o → (place : ℕ) → (o ≡ refused 46 place) ↔ ((¬ WellFormed t s) × (place ≡ 0))
  is_46 t s {o} first place = (there, back)
    where
      there : o ≡ refused 46 place → (¬ WellFormed t s) × (place ≡ 0)
      there e = by_test (is_pool t s)
          (λ yes-pool.
          let small = first.small 46 place (sym (first.is ∙ row_off 46 0 (not (is_pool t s)) first.rest (ap not yes-pool)) ∙ e) in
          absurd (omega arith))
          (λ no. (no_pool t s no, sym (same_refusal (first.is ∙ row_on 46 0 (not (is_pool t s)) first.rest (ap not no)) e).1))

      back : (¬ WellFormed t s) × (place ≡ 0) → o ≡ refused 46 place
      back h = by_test (is_pool t s)
          (λ yes-pool. absurd (h.0 ((test t s).0 yes-pool)))
          (λ no. first.is ∙ row_on 46 0 (not (is_pool t s)) first.rest (ap not no) ∙ ap (refused 46) (sym h.1))

  -- ---- adding

  module _ (t s w : List ℕ) (room k : ℕ) where
    abbrev all : ℕ
    all = needs (vars t) (with_added t s w k)

    when_addable : Addable t s w room k → add_of t s w room k ≡ roomVerdict t s w k
    when_addable a =
        add_slot t s w k room ((test t s).1 a.pool) (accepted_verdict w Nothing room a.diagram (no_output w) a.fits)
        ∙ slot_ready t s w k a.slot a.free a.variables

    -- An addition is refused before its room is looked at, or for room, or it is answered.
    pub by_addition : {C : Type 0} → ((number place : ℕ) → add_of t s w room k ≡ refused number place → number ≢ 36 → C)
        → (Addable t s w room k → size t < all → add_of t s w room k ≡ refused 36 0 → C)
        → (Addable t s w room k → all ≤ size t → add_of t s w room k ≡ accepted all (vars t) → C) → C
    by_addition f g h =
        by_test (is_pool t s)
        (λ pool. by_outcome (verdict_of w Nothing room)
        (λ n v own. by_test (leb slot_count k)
        (λ out. f 33 0 (add_slot t s w k room pool own ∙ no_slot t s w k (leb-true slot_count k out)) (omega arith))
        (λ in-slots.
        let slot = leb-false slot_count k in-slots in
        by-eq (get_or s k 0) 0
        (λ free. by-eq (vars w) (vars t)
        (λ same.
        let a = verdict_accepted w Nothing room n v own in
        let addable : Addable t s w room k =
        record { pool = (test t s).0 pool; diagram = a.accepted; fits = a.fits; slot = slot; free = free; variables = same } in
        by_test (ltb (size t) all)
        (λ over. let l = ltb-true (size t) all over in g addable l (when_addable addable ∙ room_over t s w k l))
        (λ fits. let l = ltb-false (size t) all fits in h addable l (when_addable addable ∙ room_fits t s w k l)))
        (λ differ. f 35 0 (add_slot t s w k room pool own ∙ other_vars t s w k slot free differ) (omega arith)))
        (λ taken. f 34 0 (add_slot t s w k room pool own ∙ slot_taken t s w k slot taken) (omega arith))))
        (λ number place own. f number place (add_own t s w k room pool own) (let small = own_below w room number place own in omega arith)))
        (λ none. f 46 0 (add_no_pool t s w k room none) (omega arith))

    pub is_36 : (place : ℕ) → (add_of t s w room k ≡ refused 36 place) ↔ (Addable t s w room k × (size t < all) × (place ≡ 0))
    is_36 place = (
      (λ e. by_addition
          (λ number p d ne. absurd (ne (same_refusal d e).0))
          (λ a l d. (a, l, sym (same_refusal d e).1))
          (λ a l d. absurd (never_both e d))),
      (λ h. when_addable h.0 ∙ room_over t s w k h.1 ∙ ap (refused 36) (sym h.2)),
    )

    pub is_added : (n v : ℕ) → (add_of t s w room k ≡ accepted n v) ↔ (Addable t s w room k × (all ≤ size t) × (n ≡ all) × (v ≡ vars t))
    is_added n v = (
      (λ e. by_addition
          (λ number p d ne. absurd (never_both d e))
          (λ a l d. absurd (never_both d e))
          (λ a l d. (a, l, (same_counts e d).0, (same_counts e d).1))),
      (λ h. when_addable h.0 ∙ room_fits t s w k h.1 ∙ rw (h.2, h.3) refl),
    )

  -- ---- dropping

  pub is_dropped : (t s : List ℕ) (k r : ℕ) → WellFormed t s → Live s k r → drop_of t s k ≡ accepted (needs (vars t) (with_dropped t s k)) (vars t)
  unfolding drop_of
  is_dropped t s k r f l =
      live_there t s k (needs (vars t) (with_dropped t s k)) ((test t s).1 f) l.inside (let e = l.names in omega arith)
