-- What is promised of every call, whatever is offered.
use Prim.Native.Nat.{ℕ, ◌*◌, ◌≤◌}
use mathlib.Core.Path.{◌≡◌, refl, sym, ap, ◌∙◌}
use mathlib.Core.Bool.{Bool, false}
use mathlib.Core.List.{List, ◌++◌}
use native.Mathlib.Omega.{arith}
use lib.ListN.{length, take, drop}
use lib.Seq.{take_at}
use Rattle.diagram.specs.Diagram.{size, vars, Accepted}
use Rattle.diagram.specs.Verdict.{Verdict, Outcome, accepted as yes, refused, said, and_then, verdict_of, verdict_for}
use Rattle.diagram.specs.declared.verdict.Output.TheVariants.{Diagram}
use Rattle.diagram.proofs.Meaning.{verdict_accepted}
use Rattle.diagram.proofs.Outcomes.{never_both}
use Rattle.reduction.specs.Reduce.{reduce}
use Rattle.approximation.specs.Cut.{under_size_of, over_size_of, under_count_of, over_count_of, Under, Over}
use Rattle.approximation.specs.Search.{Answer}
use Rattle.approximation.specs.Met.{under_size_answer, over_size_answer, under_count_answer, over_count_answer}
use Rattle.approximation.proofs.Sizing.{under_size_own, over_size_own}
use Rattle.approximation.proofs.Listing.{under_count_own, over_count_own}
use Rattle.approximation.proofs.Demand2.{demand2}
use Rattle.targets.specs.Targets.{Meets, UnderToSize, OverToSize, Sized, Tidied}

-- A request that is not refused by its own row, with an answer, has words that have the property Q.
module _ (w : List ℕ) (own : Outcome) (b : Answer) (Q : List ℕ → Type 0) (counts : (n v : ℕ) → own ≡ yes n v → own ≡ yes (size w) (vars w))
    (right : Accepted w → own ≡ yes (size w) (vars w) → Accepted b.words × Q b.words) where
  abbrev outcome : ℕ → ℕ → Outcome
  outcome room lent = and_then (verdict_for Diagram w room lent) own

  answered : (room lent : ℕ) (o : Outcome) → verdict_of w (Diagram lent) room ≡ o → {n v : ℕ} → and_then o own ≡ yes n v → Accepted b.words × Q b.words
  answered room lent (yes m u) e f = right (verdict_accepted w (Diagram lent) room m u e).accepted (counts _ _ f)
  answered room lent (refused k p) e f = absurd (never_both refl f)

  module _ {room room' out out' : List ℕ} {r : Verdict} {count trials : ℕ} (h : Meets outcome b w room room' out out' r count trials) where
    -- so have the words that stand in the output
    stands : (o : Outcome) → outcome (length room) (length out) ≡ o → (n v : ℕ) → o ≡ yes n v → (count ≡ size b.words) × Q b.words × (take (3 * count) out' ≡ b.words)
    stands (refused k p) e n v f = absurd (never_both refl f)
    stands (yes m u) e n v f =
        let good = answered (length room) (length out) (verdict_of w (Diagram (length out)) (length room)) refl e in
        let is : count ≡ size b.words = h.builds.nodes ∙ rw e refl in
        let written : out' ≡ b.words ++ drop (length b.words) out = h.builds.answers.output ∙ rw e refl in
        let whole = good.0.formed.whole in
        let front : take (3 * count) out' ≡ b.words =
        ap (take (3 * count)) written ∙ take_at b.words (drop (length b.words) out) (3 * count) (omega arith) in
        (is, good.1, front)

    nothing : (o : Outcome) → outcome (length room) (length out) ≡ o → (k p : ℕ) → o ≡ refused k p → count ≡ 0
    nothing (refused k p) e n v f = h.builds.nodes ∙ rw e refl
    nothing (yes m u) e n v f = absurd (never_both f refl)

    pub written_has : (n v : ℕ) → said r ≡ yes n v → Q (take (3 * count) out')
    written_has n v e =
        let s = stands (outcome (length room) (length out)) refl n v (sym h.builds.answers.verdict ∙ e) in
        rw s.2 s.1

    pub written_fits : (t : ℕ) → (Q b.words → size b.words ≤ t) → count ≤ t
    written_fits t fits = by_outcome (outcome (length room) (length out)) refl
      where
        by_outcome : (o : Outcome) → outcome (length room) (length out) ≡ o → count ≤ t
        by_outcome (refused k p) e = let none = nothing (refused k p) e k p refl in omega arith
        by_outcome (yes n v) e =
            let s = stands (yes n v) e n v refl in
            let is = s.0 in
            let most = fits s.1 in
            omega arith

-- ---- to a size: on the right side, and within the target

module _ (as_is : Bool) (w : List ℕ) (t : ℕ) where
  under_right : Accepted w → under_size_of w t ≡ yes (size w) (vars w) → Accepted (under_size_answer as_is w t).words × (Under w (under_size_answer as_is w t).words × (size (under_size_answer as_is w t).words ≤ t))
  under_right a e = let good = demand2.size_under as_is w t a e in (good.0.accepted, good)

  under_sized : {room room' out out' : List ℕ} {r : Verdict} {count trials : ℕ} → UnderToSize as_is w t room room' out out' r count trials → (count ≤ t) × ((n v : ℕ) → said r ≡ yes n v → Under w (take (3 * count) out'))
  under_sized h = (
    written_fits w (under_size_of w t) (under_size_answer as_is w t) (λ x. Under w x × (size x ≤ t)) (λ n v e. under_size_own w t e) under_right h t (λ good. good.1),
    λ n v e. (written_has w (under_size_of w t) (under_size_answer as_is w t) (λ x. Under w x × (size x ≤ t)) (λ n v e. under_size_own w t e) under_right h n v e).0,
  )

  over_right : Accepted w → over_size_of w t ≡ yes (size w) (vars w) → Accepted (over_size_answer as_is w t).words × (Over w (over_size_answer as_is w t).words × (size (over_size_answer as_is w t).words ≤ t))
  over_right a e = let good = demand2.size_over as_is w t a e in (good.0.accepted, good)

  over_sized : {room room' out out' : List ℕ} {r : Verdict} {count trials : ℕ} → OverToSize as_is w t room room' out out' r count trials → (count ≤ t) × ((n v : ℕ) → said r ≡ yes n v → Over w (take (3 * count) out'))
  over_sized h = (
    written_fits w (over_size_of w t) (over_size_answer as_is w t) (λ x. Over w x × (size x ≤ t)) (λ n v e. over_size_own w t e) over_right h t (λ good. good.1),
    λ n v e. (written_has w (over_size_of w t) (over_size_answer as_is w t) (λ x. Over w x × (size x ≤ t)) (λ n v e. over_size_own w t e) over_right h n v e).0,
  )

pub sized : Sized
sized = record { under = λ as_is {w} {t} h. under_sized as_is w t h; over = λ as_is {w} {t} h. over_sized as_is w t h }

-- ---- without the flag: reduced

abbrev Least : List ℕ → Type 0
Least x = reduce x ≡ x

pub tidied : Tidied
tidied = record {
  under_size = λ w t h. written_has w (under_size_of w t) (under_size_answer false w t) Least (λ n v e. under_size_own w t e)
      (λ a e. ((demand2.size_under false w t a e).0.accepted, (demand2.settles_size_under w t a).reduced)) h;
  over_size = λ w t h. written_has w (over_size_of w t) (over_size_answer false w t) Least (λ n v e. over_size_own w t e)
      (λ a e. ((demand2.size_over false w t a e).0.accepted, (demand2.settles_size_over w t a).reduced)) h;
  under_count = λ w k h. written_has w (under_count_of w k) (under_count_answer false w k) Least (λ n v e. under_count_own w k e)
      (λ a e. ((demand2.count_under false w k a e).0.accepted, (demand2.settles_count_under w k a e).reduced)) h;
  over_count = λ w k h. written_has w (over_count_of w k) (over_count_answer false w k) Least (λ n v e. over_count_own w k e)
      (λ a e. ((demand2.count_over false w k a e).0.accepted, (demand2.settles_count_over w k a e).reduced)) h;
}
