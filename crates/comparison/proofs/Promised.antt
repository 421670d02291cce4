-- What is promised of the comparison.
use Prim.Native.Nat.{ℕ, ◌/◌, ◌≤◌, ◌<◌}
use mathlib.Core.Path.{◌≡◌, refl, sym, ap, ◌∙◌}
use mathlib.Core.Logic.{◌↔◌, ◌≢◌, ⊎_elim}
use mathlib.Core.Bool.{Bool, true, false, not, ◌&&◌, ◌||◌}
use mathlib.Core.List.{List}
use native.Mathlib.Omega.{arith}
use lib.ListN.{length}
use lib.Dec.{ltb, eqb}
use borrow.Author.Tests.{lt-ltb, le-ltb, ltb-true, ltb-false, eq-eqb, ne_eqb}
use Rattle.diagram.specs.Diagram.{vars, holds}
use Rattle.diagram.specs.Valuations.{tally}
use Rattle.diagram.specs.Verdict.{Outcome, accepted, refused, row, short, verdict_of}
use Rattle.diagram.specs.declared.verdict.Output.TheVariants.{Nothing}
use Rattle.diagram.proofs.Tests.{by_test, by-eq, and_both, both_and, not_both}
use Rattle.diagram.proofs.Tally.{tally_nowhere}
use Rattle.diagram.proofs.Outcomes.{same_refusal, same_counts, never_both}
use Rattle.diagram.proofs.Meaning.{verdict_accepted, accepted_verdict}
use Rattle.diagram.proofs.Promised.{demand1}
use Rattle.diagram.proofs.Reading.{accepted_ordered}
use Rattle.counts.specs.Counting.{Number}
use Rattle.counts.proofs.Turns.{counting}
use Rattle.pairs.specs.Pairs.{pair_words, Reached, pairs_of}
use Rattle.pairs.proofs.Numbering.{walks}
use Rattle.comparison.specs.Comparison.{differ, alike_of, compare_of}
use Rattle.comparison.specs.Compares.{BothAccepted, Compares}
use Rattle.comparison.specs.Work.{beside_of}
use Rattle.comparison.proofs.Least.{least_length, least_passes, least_least}
use Rattle.comparison.proofs.Answers.{first_whole, second_whole, row_on, row_off, split_row}
use Rattle.comparison.proofs.Numbers.{number_once, number_as}

-- ---- refusals

by_outcome : {C : Type 0} (o : Outcome) → ((n v : ℕ) → o ≡ accepted n v → C) → ((k p : ℕ) → o ≡ refused k p → C) → C
by_outcome (accepted n v) f g = f n v refl
by_outcome (refused k p) f g = g k p refl

-- a diagram's own refusals have smaller numbers
own_small : (w : List ℕ) (room k p : ℕ) → verdict_of w Nothing room ≡ refused k p → k < 31
own_small w room k p e = ⊎_elim (λ i. omega (arith, i.1)) (λ i. omega arith) (demand1.refuses w Nothing room k p e)

no_output : (w : List ℕ) → short w Nothing ≡ false
unfolding short
no_output w = refl

module _ (a b : List ℕ) (room table : ℕ) where
  -- what 31 and 32 come to where both are accepted
  answer_of_lem : {n v m u : ℕ} → verdict_of a Nothing room ≡ accepted n v → verdict_of b Nothing room ≡ accepted m u → compare_of a b room table ≡ beside_of a b table
  unfolding compare_of alike_of beside_of
  answer_of_lem ea eb =
      rw (ea, eb) (split_row 31 (not (eqb (vars a) (vars b))) 0 (pairs_of a b) (vars a) (row 32 (ltb (table / pair_words) (pairs_of a b)) 0 (accepted (pairs_of a b) (vars a))))

  first_says : {k p : ℕ} → verdict_of a Nothing room ≡ refused k p → compare_of a b room table ≡ refused k p
  unfolding compare_of alike_of
  first_says e = rw e refl

  second_says : {n v k p : ℕ} → verdict_of a Nothing room ≡ accepted n v → verdict_of b Nothing room ≡ refused k p → compare_of a b room table ≡ refused k p
  unfolding compare_of alike_of
  second_says ea eb = rw (ea, eb) refl

  when_both : BothAccepted a b room → compare_of a b room table ≡ beside_of a b table
  when_both k = answer_of_lem (accepted_verdict a Nothing room k.first (no_output a) k.first_fits) (accepted_verdict b Nothing room k.second (no_output b) k.second_fits)

  by_checks : {C : Type 0} → ((k p : ℕ) → compare_of a b room table ≡ refused k p → k < 31 → C) → (BothAccepted a b room → C) → C
  by_checks f g = by_outcome (verdict_of a Nothing room)
      (λ n v ea. by_outcome (verdict_of b Nothing room)
      (λ m u eb.
      let x = verdict_accepted a Nothing room n v ea in
      let y = verdict_accepted b Nothing room m u eb in
      g (record { first = x.accepted; second = y.accepted; first_fits = x.fits; second_fits = y.fits }))
      (λ k p eb. f k p (second_says ea eb) (own_small b room k p eb)))
      (λ k p ea. f k p (first_says ea) (own_small a room k p ea))

  beside_apart : vars a ≢ vars b → beside_of a b table ≡ refused 31 0
  unfolding beside_of
  beside_apart ne =
      row_on 31 0 (not (eqb (vars a) (vars b))) (row 32 (ltb (table / pair_words) (pairs_of a b)) 0 (accepted (pairs_of a b) (vars a))) (rw (ne_eqb (vars a) (vars b) ne) refl)

  beside_alike : vars a ≡ vars b → beside_of a b table ≡ row 32 (ltb (table / pair_words) (pairs_of a b)) 0 (accepted (pairs_of a b) (vars a))
  unfolding beside_of
  beside_alike e =
      row_off 31 0 (not (eqb (vars a) (vars b))) (row 32 (ltb (table / pair_words) (pairs_of a b)) 0 (accepted (pairs_of a b) (vars a))) (rw (eq-eqb (vars a) (vars b) e) refl)

  beside_over : vars a ≡ vars b → table / pair_words < pairs_of a b → beside_of a b table ≡ refused 32 0
  beside_over e l =
      beside_alike e ∙ row_on 32 0 (ltb (table / pair_words) (pairs_of a b)) (accepted (pairs_of a b) (vars a)) (lt-ltb (table / pair_words) (pairs_of a b) l)

  beside_fits : vars a ≡ vars b → pairs_of a b ≤ table / pair_words → beside_of a b table ≡ accepted (pairs_of a b) (vars a)
  beside_fits e l =
      beside_alike e ∙ row_off 32 0 (ltb (table / pair_words) (pairs_of a b)) (accepted (pairs_of a b) (vars a)) (le-ltb (table / pair_words) (pairs_of a b) l)

  -- so there are four cases
  by_answer : {C : Type 0} → ((k p : ℕ) → compare_of a b room table ≡ refused k p → k < 31 → C)
      → (BothAccepted a b room → vars a ≢ vars b → compare_of a b room table ≡ refused 31 0 → C)
      → (BothAccepted a b room → vars a ≡ vars b → table / pair_words < pairs_of a b → compare_of a b room table ≡ refused 32 0 → C)
      → (BothAccepted a b room → vars a ≡ vars b → pairs_of a b ≤ table / pair_words → compare_of a b room table ≡ accepted (pairs_of a b) (vars a) → C) → C
  by_answer f g h i = by_checks f (λ k. by-eq (vars a) (vars b)
      (λ e. by_test (ltb (table / pair_words) (pairs_of a b))
      (λ t. let l = ltb-true (table / pair_words) (pairs_of a b) t in h k e l (when_both k ∙ beside_over e l))
      (λ t. let l = ltb-false (table / pair_words) (pairs_of a b) t in i k e l (when_both k ∙ beside_fits e l)))
      (λ ne. g k ne (when_both k ∙ beside_apart ne)))

  count_is : {n : ℕ} → BothAccepted a b room → vars a ≡ vars b → Number (Reached a b) n → n ≡ pairs_of a b
  count_is k e num = number_once num (walks.pairs a b (accepted_ordered a k.first) (accepted_ordered b k.second) e)

  is_31 : (place : ℕ) → (compare_of a b room table ≡ refused 31 place) ↔ (BothAccepted a b room × (vars a ≢ vars b) × (place ≡ 0))
  is_31 place = (
    (λ e. by_answer
        (λ k p d l. let s = (same_refusal d e).0 in absurd (omega arith))
        (λ k ne d. (k, ne, sym (same_refusal d e).1))
        (λ k s l d. let t = (same_refusal d e).0 in absurd (omega arith))
        (λ k s l d. absurd (never_both e d))),
    (λ h. when_both h.0 ∙ beside_apart h.1 ∙ ap (refused 31) (sym h.2)),
  )

  is_32 : (place n : ℕ) → Number (Reached a b) n
      → (compare_of a b room table ≡ refused 32 place) ↔ (BothAccepted a b room × (vars a ≡ vars b) × (table / pair_words < n) × (place ≡ 0))
  is_32 place n num = (
    (λ e. by_answer
        (λ k p d l. let s = (same_refusal d e).0 in absurd (omega arith))
        (λ k ne d. let t = (same_refusal d e).0 in absurd (omega arith))
        (λ k s l d. (k, s, omega (arith, count_is k s num), sym (same_refusal d e).1))
        (λ k s l d. absurd (never_both e d))),
    (λ h. when_both h.0 ∙ beside_over h.1 (omega (arith, count_is h.0 h.1 num, h.2)) ∙ ap (refused 32) (sym h.3)),
  )

  is_answered : (n v : ℕ) → Number (Reached a b) n
      → (compare_of a b room table ≡ accepted n v) ↔ (BothAccepted a b room × (vars a ≡ vars b) × (n ≤ table / pair_words) × (v ≡ vars a))
  is_answered n v num = (
    (λ e. by_answer
        (λ k p d l. absurd (never_both d e))
        (λ k ne d. absurd (never_both d e))
        (λ k s l d. absurd (never_both d e))
        (λ k s l d. (k, s, omega (arith, count_is k s num), sym (same_counts d e).1))),
    (λ h. when_both h.0 ∙ beside_fits h.1 (omega (arith, count_is h.0 h.1 num, h.2)) ∙ rw (count_is h.0 h.1 num, h.3) refl),
  )

-- ---- what is counted

not_true : (x : Bool) → not x ≡ true → x ≡ false
not_true true e = absurd (not_both false e refl)
not_true false e = refl

false_not : (x : Bool) → x ≡ false → not x ≡ true
false_not x e = rw e refl

only_number : (k : ℕ) (f g : List Bool → Bool) → Number (λ bs. (length bs ≡ k) × (f bs ≡ true) × (g bs ≡ false)) (tally k (λ bs. f bs && not (g bs)))
only_number k f g = number_as
    (λ bs p. let e = and_both (f bs) (not (g bs)) p.1 in (p.0, e.0, not_true (g bs) e.1))
    (λ bs p. (p.0, both_and (f bs) (not (g bs)) p.1 (false_not (g bs) p.2)))
    (counting.tallies k (λ bs. f bs && not (g bs)))

both_number : (k : ℕ) (f g : List Bool → Bool) → Number (λ bs. (length bs ≡ k) × (f bs ≡ true) × (g bs ≡ true)) (tally k (λ bs. f bs && g bs))
both_number k f g = number_as
    (λ bs p. (p.0, (and_both (f bs) (g bs) p.1).0, (and_both (f bs) (g bs) p.1).1))
    (λ bs p. (p.0, both_and (f bs) (g bs) p.1 p.2))
    (counting.tallies k (λ bs. f bs && g bs))

-- ---- what is shown

unequal : (x y : Bool) → (((x && not y) || (y && not x)) ≡ true) ↔ (x ≢ y)
unequal true true = ((λ e. absurd (not_both false e refl)), (λ ne. absurd (ne refl)))
unequal true false = ((λ e f. not_both false (sym f) refl), (λ ne. refl))
unequal false true = ((λ e f. not_both true refl (sym f)), (λ ne. refl))
unequal false false = ((λ e. absurd (not_both false e refl)), (λ ne. absurd (ne refl)))

equal : (x y : Bool) → ((x && not y) || (y && not x)) ≡ false → x ≡ y
equal true true e = refl
equal true false e = absurd (not_both true refl e)
equal false true e = absurd (not_both true refl e)
equal false false e = refl

pub compares : Compares
compares = record {
  thirty_one = is_31;
  thirty_two = is_32;
  answered = is_answered;
  first_only_lem = λ a b. only_number (vars a) (holds a) (holds b);
  second_only_lem = λ a b. number_as (λ bs p. (p.0, p.2, p.1)) (λ bs p. (p.0, p.2, p.1)) (only_number (vars a) (holds b) (holds a));
  in_both_lem = λ a b. both_number (vars a) (holds a) (holds b);
  first_whole = first_whole;
  second_whole = second_whole;
  shows = λ a b any. record {
    long = least_length (vars a) (differ a b);
    passes = least_passes (vars a) (differ a b) (ltb-true 0 (tally (vars a) (differ a b)) any);
    least = least_least (vars a) (differ a b);
  };
  differs = λ a b bs. unequal (holds a bs) (holds b bs);
  none = λ a b no bs l.
      let zero = ltb-false 0 (tally (vars a) (differ a b)) no in
      equal (holds a bs) (holds b bs) (tally_nowhere (vars a) (differ a b) (omega arith) bs l);
}
