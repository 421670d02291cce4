-- Cutting to a size: which answer it is, from above, and the verdicts.
use Prim.Native.Nat.{ℕ, ◌*◌, ◌≤◌, ◌<◌, max}
use mathlib.Core.Path.{◌≡◌, refl, sym, ap, ◌∙◌}
use mathlib.Core.Bool.{Bool, true, false}
use mathlib.Core.List.{List}
use native.Mathlib.Omega.{arith}
use lib.ListN.{length, take}
use Rattle.diagram.specs.Diagram.{size, vars}
use Rattle.diagram.specs.Verdict.{Verdict, Outcome, accepted, said, and_then, Checked}
use Rattle.std.specs.Prelude.{Ok, Err}
use Rattle.diagram.specs.declared.verdict.Extent.{Extent}
use Rattle.diagram.specs.declared.verdict.Refused.{Refused}
use Rattle.diagram.specs.declared.verdict.Output.TheVariants.{Diagram}
use Rattle.diagram.proofs.Meaning.{verdict_accepted}
use Rattle.diagram.proofs.Outcomes.{never_both}
use Rattle.negation.proofs.Meaning.{negated_size}
use Rattle.approximation.specs.Search.{back, under_to_size, over_to_size}
use Rattle.approximation.specs.Met.{met, under_size_answer, over_size_answer}
use Rattle.approximation.proofs.Sizing.{size_verdict_lem}
use Rattle.approximation.proofs.Settling.{under_size_is_met, under_size_is_sought, over_size_is_met, over_size_is_sought}
use Rattle.approximation.proofs.Targets.{to_size_none, to_size_under, over_size_one, over_size_negates}
use Rattle.trials.specs.Trials.{Found}
use Rattle.trials.specs.Answers.{Returned}
use Rattle.told.specs.Told.{size_told_of, Passed}
use Rattle.targets.specs.Hits.{to_size, size_verdict, ToSize, Targeting, Hit}
use Rattle.targets.proofs.Hitting.{Flipped, flipped_searches, back_hits, check_targets, meets_refused, meets_hit}

-- ---- which answer it is

module _ (above as_is : Bool) {w r out : List ℕ} {t n v : ℕ} (a : Targeting w r out n v) {u out' : List ℕ} {c trials : ℕ} where
  pub met_hits : n ≤ t → Hit (met as_is w) r u out out' c trials → Hit (to_size above as_is w t) r u out out' c trials
  met_hits h hit = let is = a.is_size in rw (is_met above (omega arith)) hit
    where
      is_met : (above : Bool) → size w ≤ t → to_size above as_is w t ≡ met as_is w
      is_met true fits = over_size_is_met as_is w t fits
      is_met false fits = under_size_is_met as_is w t fits

module _ (as_is : Bool) {w r out : List ℕ} {t n v : ℕ} (a : Targeting w r out n v) (h : t < n) {u out' : List ℕ} {c trials : ℕ} where
  pub sought_under : Hit (under_to_size w t) r u out out' c trials → Hit (under_size_answer as_is w t) r u out out' c trials
  sought_under hit = let is = a.is_size in rw (under_size_is_sought as_is w t (omega arith)) hit

  pub sought_over : Hit (over_to_size w t) r u out out' c trials → Hit (over_size_answer as_is w t) r u out out' c trials
  sought_over hit = let is = a.is_size in rw (over_size_is_sought as_is w t (omega arith)) hit

-- ---- from above

module _ {w r out : List ℕ} {n v : ℕ} (a : Targeting w r out n v) where
  -- one node is false, either way
  pub one_hits : (t : ℕ) → t < 2 → {Room-after out' : List ℕ} {c trials : ℕ} → Hit (under_to_size w t) r Room-after out out' c trials
      → Hit (over_to_size w t) r Room-after out out' c trials
  one_hits t h f =
      let same : over_to_size w t ≡ under_to_size w t = over_size_one w t a.accepted (omega arith) ∙ sym (to_size_none w t (omega arith)) in
      rw same f

  -- the negation of more than two nodes has as many
  pub flipped_above : {made : ℕ} {flipped : List ℕ} → Flipped w made flipped → (t : ℕ) → 2 ≤ t → t < n → t < made
  flipped_above e t h more =
      let is = a.is_size in
      let count = e.count in
      let same = negated_size w a.accepted.formed (omega arith) in
      omega arith

  module _ {made : ℕ} {flipped : List ℕ} (e : Flipped w made flipped) {m : ℕ} (is_m : m ≡ max n 2) where
    pub over_hits : (t : ℕ) → 2 ≤ t → {s : List ℕ} {k trials : ℕ}
        → Found (take (3 * made) flipped) (under_to_size (take (3 * made) flipped) t) r s k trials
        → {Room-after out' : List ℕ} {c : ℕ} → Returned m k s out Room-after out' c → Hit (over_to_size w t) r Room-after out out' c trials
    over_hits t h f g =
        rw (over_size_negates w t a.accepted h ∙ ap (λ (x : List ℕ). back (under_to_size x t)) (sym e.words))
        (back_hits a e is_m f (to_size_under (take (3 * made) flipped) t (flipped_searches a e).accepted) g)

-- ---- the verdicts

-- An acceptance of a target has the diagram's own counts.
told_counts : (above : Bool) (w : List ℕ) (t : ℕ) {n v : ℕ} → size_told_of above w t ≡ accepted n v → (n ≡ size w) × (v ≡ vars w)
told_counts true w t {n} {v} e = let h = ((size_verdict_lem w t).over_accepts n v).0 e in (h.1, h.2)
told_counts false w t {n} {v} e = let h = ((size_verdict_lem w t).under_accepts n v).0 e in (h.1, h.2)

module _ (above as_is : Bool) (t : ℕ) {w room room' : List ℕ} (out : List ℕ) where
  pub size_passed : {checked : Verdict} → Checked w (Diagram (length out)) room room' checked → Passed w (said checked)
  size_passed c n v e =
      let a = verdict_accepted w (Diagram (length out)) (length room) n v (sym c.verdict ∙ e) in
      (a.accepted, a.nodes, a.variables)

  module _ (l : Verdict) where
    told_is : {checked : Verdict} → Checked w (Diagram (length out)) room room' checked → said l ≡ and_then (said checked) (size_told_of above w t)
        → size_verdict above w t (length room) (length out) ≡ said l
    told_is c says = ap (λ (o : Outcome). and_then o (size_told_of above w t)) (sym c.verdict) ∙ sym says

    pub size_refuses : {checked : Verdict} → Checked w (Diagram (length out)) room room' checked → said l ≡ and_then (said checked) (size_told_of above w t)
        → {x : Refused} → l ≡ Err x → ToSize above as_is w t room room' out out (Err x) 0 0
    size_refuses c says e = meets_refused (size_verdict above w t) (to_size above as_is w t) out c.left refl (told_is c says ∙ ap said e)

    pub size_targets : (checked : Verdict) → Checked w (Diagram (length out)) room room' checked → said l ≡ and_then (said checked) (size_told_of above w t)
        → {x : Extent} → l ≡ Ok x → Targeting w room' out x.nodes x.vars
    size_targets (Err y) c says e = absurd (never_both says (ap said e))
    size_targets (Ok y) c says e =
        let a = check_targets out c refl in
        let own = told_counts above w t (sym says ∙ ap said e) in
        record {
          accepted = a.accepted;
          is_size = own.0;
          is_vars = own.1;
          long = a.long;
          zero = a.zero;
          output = a.output;
        }

    pub size_meets : {checked : Verdict} → Checked w (Diagram (length out)) room room' checked → said l ≡ and_then (said checked) (size_told_of above w t)
        → {x : Extent} → l ≡ Ok x → {room'' out' : List ℕ} {k trials : ℕ} → Hit (to_size above as_is w t) room' room'' out out' k trials
        → ToSize above as_is w t room room'' out out' (Ok x) k trials
    size_meets c says e h = meets_hit (size_verdict above w t) (to_size above as_is w t) out c.left refl (told_is c says ∙ ap said e) h
