-- A call on the first records of a row is the call on the whole row. What is looked at and changed is the records of the variables, and a pool
-- has no more than `max_variables` of them.
--     variables_of                           how many records a call has changed
--     few_by_add, few_by_drop, few_by_sum   no more than it was given
--     add_whole, drop_whole, sum_whole      what is promised of the row, where those that have changed are copied back
use Prim.Native.Nat.{ℕ, min, ◌*◌, ◌≤◌}
use mathlib.Core.Path.{◌≡◌, refl, sym, ap, ◌∙◌}
use mathlib.Core.Bool.{Bool, true, false, not}
use mathlib.Core.List.{List, ◌++◌}
use native.Mathlib.Omega.{arith}
use lib.ListN.{length, take, drop}
use lib.Seq.{length-take-le, take-take}
use Rattle.diagram.specs.Limits.{max_variables}
use Rattle.diagram.specs.Diagram.{size, vars}
use Rattle.diagram.specs.Verdict.{Verdict, Outcome, accepted, refused, said, row, if_accepted}
use Rattle.diagram.proofs.Outcomes.{same_counts, never_both}
use Rattle.pool.specs.Answers.{with_added, with_dropped, add_of, live_of, drop_of}
use Rattle.pool.proofs.Tables.{table_vars}
use Rattle.pool.proofs.Promised.{pools}
use Rattle.summary.specs.Summary.{record_words, summary_words, fresh_summary}
use Rattle.summary.specs.Kept.{same, agrees, renewed, roomy, beside, summarized, AddsBeside, DropsBeside, Summarizes}
use Rattle.summary.specs.Summaries.{Roomy}
use Rattle.summary.proofs.Counting.{renewed_front}
use Rattle.summary.proofs.Agreeing.{agrees_is}
use Rattle.summary.proofs.Rows.{by_roomy}

-- The variables where a call is accepted, and none where it is refused.
abbrev pub variables_of : Outcome → ℕ
variables_of (accepted n v) = v
variables_of (refused number place) = 0

-- ---- accepted over u variables, or not at all

abbrev Over : ℕ → Outcome → Type 0
Over u o = (n v : ℕ) → o ≡ accepted n v → v ≡ u

row_over : (number : ℕ) (test : Bool) (place u : ℕ) {below : Outcome} → Over u below → Over u (row number test place below)
unfolding row
row_over number true place u rest n v e = absurd (never_both refl e)
row_over number false place u rest n v e = rest n v e

accepted_over : (n u : ℕ) → Over u (accepted n u)
accepted_over n u m v e = (same_counts e refl).1

added_over : (t s w : List ℕ) (room k : ℕ) → Over (vars t) (add_of t s w room k)
added_over t s w room k n v e = ((pools.added t s w room k n v).0 e).3

dropped_over : (t s : List ℕ) (k : ℕ) → Over (vars t) (drop_of t s k)
unfolding drop_of live_of
dropped_over t s k = row_over 46 _ 0 (vars t) (row_over 33 _ 0 (vars t) (row_over 34 _ 0 (vars t) (accepted_over _ (vars t))))

module _ (t s kept : List ℕ) where
  roomy_over : {below : Outcome} → Over (vars t) below → Over (vars t) (roomy t s kept below)
  unfolding roomy
  roomy_over over = row_over 46 _ 0 (vars t) (row_over 37 _ 0 (vars t) over)

  beside_over : {answer : Outcome} → Over (vars t) answer → Over (vars t) (beside t s kept answer)
  unfolding beside
  beside_over over = roomy_over (row_over 47 (not (agrees t s kept)) 0 (vars t) over)

-- ---- a call changes no more records than it was given

outcome_few : (o : Outcome) (u n : ℕ) → Over u o → u ≤ n → variables_of o ≤ n
outcome_few (accepted m v) u n over h = let e = over m v refl in omega arith
outcome_few (refused k p) u n over h = omega arith

module _ (t s front : List ℕ) (n : ℕ) (few : length front ≤ record_words * n) where
  roomy_few : (below : Outcome) → Over (vars t) below → variables_of (roomy t s front below) ≤ n
  roomy_few below over = by_roomy t s front below
      (λ none d. rw d (omega arith))
      (λ f h d. rw d (omega arith))
      (λ r d. rw d (outcome_few below (vars t) n over (let l = r.long in omega arith)))

  beside_few : (answer : Outcome) → Over (vars t) answer → variables_of (beside t s front answer) ≤ n
  unfolding beside
  beside_few answer over = roomy_few _ (row_over 47 (not (agrees t s front)) 0 (vars t) over)

  pub few_by_add : (w : List ℕ) (k : ℕ) (t' s' front' room room' : List ℕ) (r : Verdict)
      → AddsBeside t s front w k t' s' front' room room' r → variables_of (said r) ≤ n
  few_by_add w k t' s' front' room room' r a = rw a.verdict (beside_few (add_of t s w (length room) k) (added_over t s w (length room) k))

  pub few_by_drop : (k : ℕ) (t' s' front' : List ℕ) (r : Verdict) → DropsBeside t s front k t' s' front' r → variables_of (said r) ≤ n
  few_by_drop k t' s' front' r d = rw d.verdict (beside_few (drop_of t s k) (dropped_over t s k))

  pub few_by_sum : (front' : List ℕ) (r : Verdict) → Summarizes t s front front' r → variables_of (said r) ≤ n
  few_by_sum front' r a = rw a.verdict (roomy_few (accepted (size t) (vars t)) (accepted_over (size t) (vars t)))

-- ---- what the call says of the first n records and of the whole row

module _ (t s kept front : List ℕ) (len n : ℕ) (long : length kept ≡ record_words * len) (most : n ≡ min len max_variables)
    (each : length front ≡ record_words * n) where
  roomy_whole : (below below' : Outcome) → (Roomy t s front → below ≡ below') → roomy t s front below ≡ roomy t s kept below'
  roomy_whole below below' alike = by_roomy t s front below
      (λ none d. by_roomy t s kept below' (λ also e. d ∙ sym e) (λ f h e. absurd (none f)) (λ r e. absurd (none r.pool)))
      (λ f h d. by_roomy t s kept below' (λ none e. absurd (none f)) (λ also g e. d ∙ sym e) (λ r e. absurd (omega (arith, f.variables, r.long))))
      (λ r d. by_roomy t s kept below' (λ none e. absurd (none r.pool)) (λ f h e. absurd (omega (arith, r.long))) (λ also e. d ∙ alike r ∙ sym e))

  module _ (is : front ≡ take (record_words * n) kept) where
    agrees_whole : Roomy t s front → agrees t s front ≡ agrees t s kept
    agrees_whole r =
        let e : take (summary_words t) front ≡ take (summary_words t) kept =
        ap (take (summary_words t)) is ∙ take-take (summary_words t) (record_words * n) kept (omega (arith, r.long)) in
        agrees_is t s front ∙ ap (λ (l : List ℕ). same l (fresh_summary t s)) e ∙ sym (agrees_is t s kept)

    beside_whole : (answer : Outcome) → beside t s front answer ≡ beside t s kept answer
    unfolding beside
    beside_whole answer = roomy_whole _ _ (λ r. ap (λ (b : Bool). row 47 (not b) 0 answer) (agrees_whole r))

-- ---- the records that have changed, copied back

-- A change leaves the table's variables as they were.
after_over : (o : Outcome) (t t' changed : List ℕ) → vars changed ≡ vars t → t' ≡ if_accepted o changed t → Over (vars t) o → Over (vars t') o
after_over (accepted m u) t t' changed stay is over n v e = over n v e ∙ sym (ap (λ (l : List ℕ). vars l) is ∙ stay)
after_over (refused k p) t t' changed stay is over n v e = absurd (never_both refl e)

-- The first words of z are what the call has left of the n records that it was given. The m that have changed are copied to the row.
module _ (kept front z : List ℕ) (n m : ℕ) (kept' : List ℕ) (back : kept' ≡ take (record_words * m) z ++ drop (record_words * m) kept) where
  copied_back : (o : Outcome) (t s : List ℕ) → Over (vars t) o → variables_of o ≤ n → m ≡ variables_of o
      → take (record_words * n) z ≡ if_accepted o (renewed t s front) front → kept' ≡ if_accepted o (renewed t s kept) kept
  copied_back (accepted j v) t s over few count is =
      let e : m ≡ vars t = count ∙ over j v refl in
      let fresh : take (summary_words t) z ≡ fresh_summary t s =
      sym (take-take (summary_words t) (record_words * n) z (omega arith)) ∙ ap (take (summary_words t)) is ∙ renewed_front t s front in
      back
      ∙ ap (λ (u : ℕ). take (record_words * u) z ++ drop (record_words * u) kept) e
      ∙ ap (λ (l : List ℕ). l ++ drop (summary_words t) kept) fresh
  copied_back (refused j p) t s over few count is = back ∙ ap (λ (u : ℕ). take (record_words * u) z ++ drop (record_words * u) kept) count

-- ---- the contracts: of a row of len records n are given to the call, and m are copied back

module _ (t s kept front : List ℕ) (len n : ℕ) (long : length kept ≡ record_words * len) (most : n ≡ min len max_variables)
    (z : List ℕ) (m : ℕ) (kept' : List ℕ) (back : kept' ≡ take (record_words * m) z ++ drop (record_words * m) kept) (r : Verdict)
    (count : m ≡ variables_of (said r)) where
  module _ (is : front ≡ take (record_words * n) kept) where
    front_length : length front ≡ record_words * n
    front_length = ap (λ (l : List ℕ). length l) is ∙ length-take-le (record_words * n) kept (omega arith)

    alike : (answer : Outcome) → beside t s front answer ≡ beside t s kept answer
    alike = beside_whole t s kept front len n long most front_length is

    summary_whole : (answer : Outcome) (t' s' changed : List ℕ) → Over (vars t) answer → vars changed ≡ vars t
        → said r ≡ beside t s front answer → t' ≡ if_accepted (beside t s front answer) changed t
        → take (record_words * n) z ≡ if_accepted (beside t s front answer) (renewed t' s' front) front
        → kept' ≡ if_accepted (beside t s kept answer) (renewed t' s' kept) kept
    summary_whole answer t' s' changed over stay told table is_left =
        let o : Outcome = beside t s front answer in
        rw (← alike answer)
        (copied_back kept front z n m kept' back o t' s' (after_over o t t' changed stay table (beside_over t s front over))
        (beside_few t s front n (let l = front_length in omega arith) answer over) (count ∙ ap variables_of told) is_left)

    pub add_whole : (w : List ℕ) (k : ℕ) (t' s' room room' : List ℕ)
        → AddsBeside t s front w k t' s' (take (record_words * n) z) room room' r → AddsBeside t s kept w k t' s' kept' room room' r
    add_whole w k t' s' room room' a =
        let answer : Outcome = add_of t s w (length room) k in
        record {
          verdict = a.verdict ∙ alike answer;
          table = rw (← alike answer) a.table;
          slots = rw (← alike answer) a.slots;
          summary = summary_whole answer t' s' _ (added_over t s w (length room) k) (table_vars (size t) (vars t) (with_added t s w k))
              a.verdict a.table a.summary;
          left = rw (← alike (accepted (size t) (vars t))) a.left;
        }

    pub drop_whole : (k : ℕ) (t' s' : List ℕ) → DropsBeside t s front k t' s' (take (record_words * n) z) r → DropsBeside t s kept k t' s' kept' r
    drop_whole k t' s' d =
        let answer : Outcome = drop_of t s k in
        record {
          verdict = d.verdict ∙ alike answer;
          table = rw (← alike answer) d.table;
          slots = rw (← alike answer) d.slots;
          summary = summary_whole answer t' s' _ (dropped_over t s k) (table_vars (size t) (vars t) (with_dropped t s k))
              d.verdict d.table d.summary;
        }

  -- Working a summary out looks at no word of the row: any n records do.
  pub sum_whole : length front ≡ record_words * n → Summarizes t s front (take (record_words * n) z) r → Summarizes t s kept kept' r
  sum_whole each a =
      let answer : Outcome = accepted (size t) (vars t) in
      let over : Over (vars t) answer = accepted_over (size t) (vars t) in
      let e = roomy_whole t s kept front len n long most each answer answer (λ roomy-front. refl) in
      record {
        verdict = a.verdict ∙ e;
        summary = rw (← e)
            (copied_back kept front z n m kept' back (summarized t s front) t s (roomy_over t s front over)
            (roomy_few t s front n (omega arith) answer over) (count ∙ ap variables_of a.verdict) a.summary);
      }
