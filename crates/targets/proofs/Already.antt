-- Targets that the diagram meets as it is given.
use Prim.Native.Nat.{ℕ, ◌≤◌}
use mathlib.Core.Path.{◌≡◌, refl, sym, ◌∙◌}
use mathlib.Core.Bool.{true, false}
use mathlib.Core.List.{List}
use native.Mathlib.Omega.{arith}
use lib.ListN.{length, take, take-append-drop}
use lib.Seq.{take-length}
use Rattle.diagram.proofs.Reading.{accepted_ordered}
use Rattle.reduction.specs.Room.{Copied, Lent, Answered}
use Rattle.reduction.proofs.Reducing.{zero_lends}
use Rattle.reduction.proofs.Answering.{copied_front}
use Rattle.approximation.specs.Met.{met}
use Rattle.targets.specs.Hits.{Targeting, Hit}

module _ {w r out : List ℕ} {n v : ℕ} (a : Targeting w r out n v) where
  -- ---- the words are kept

  pub meet_fits : length w ≤ length out
  meet_fits =
      let whole = a.accepted.formed.whole in
      let output = a.output in
      omega arith

  pub meet_kept : {out' : List ℕ} → length out' ≡ length out → Copied w 0 out out' (length w) → Hit (met true w) r r out out' n 0
  unfolding met
  meet_kept {out'} same c =
      let fits = meet_fits in
      let front : take (length w) out' ≡ w = copied_front c (omega arith) (omega arith) ∙ take-length w in
      record {
        count = a.is_size;
        trials = refl;
        room = refl;
        written = sym (take-append-drop (length w) out') ∙ rw (front, c.rest) refl;
      }

  -- ---- they are reduced

  pub meet_lends : Lent w r out n v
  meet_lends =
      let long = a.long in
      zero_lends (accepted_ordered w a.accepted) a.is_size a.is_vars (omega arith) (λ j h. a.zero j (omega arith)) a.output

  pub meet_reduced : {r' out' : List ℕ} {k : ℕ} → Answered w r out r' out' k → Hit (met false w) r r' out out' k 0
  unfolding met
  meet_reduced b = record { count = b.count; trials = refl; room = b.room; written = b.output }
