-- The answers of the operations, laid flat.
use Prim.Native.Nat.{ℕ}
use mathlib.Core.Path.{◌≡◌, refl, sym, ap, ◌∙◌}
use mathlib.Core.Bool.{Bool, false}
use mathlib.Core.List.{List}
use lib.ListN.{length}
use lib.Ieee.{Float}
use Rattle.diagram.specs.Verdict.{Verdict, Outcome, accepted, refused, said, verdict_of, if_accepted}
use Rattle.diagram.specs.declared.verdict.Output.TheVariants.{Nothing}
use Rattle.blocks.specs.Block.{Stored, said as said_of}
use Rattle.queries.specs.Queries.{Tells}
use Rattle.flat.specs.Flat.{flat_of, flat_stored, bit, Flat, FlatCount, FlatFloat, FlatAmount, FlatDiagram, FlatTarget, FlatStored}
use Rattle.flat.specs.declared.HouayletanVerdict.{HouayletanVerdict}
use Rattle.flat.specs.declared.HouayletanCount.{HouayletanCount}
use Rattle.flat.specs.declared.HouayletanFloat.{HouayletanFloat}
use Rattle.flat.specs.declared.HouayletanAmount.{HouayletanAmount}
use Rattle.flat.specs.declared.HouayletanDiagram.{HouayletanDiagram}
use Rattle.flat.specs.declared.HouayletanApproximation.{HouayletanApproximation}
use Rattle.flat.specs.declared.HouayletanStored.{HouayletanStored}

bit_told : (o : Outcome) (b : Bool) → bit (if_accepted o b false) ≡ if_accepted o (bit b) 0
bit_told (accepted n v) b = refl
bit_told (refused k p) b = refl

pub flat_stored_lem : {s : Stored} (promise : Stored → Type 0) → promise s → (r : HouayletanStored) → r ≡ flat_stored (said_of s) → FlatStored promise r
flat_stored_lem {s} promise a r e = record { stored = s; kept = a; flat = e }

module _ {v : Verdict} where
  pub flat_verdict : (promise : Verdict → Type 0) → promise v → (r : HouayletanVerdict) → r ≡ flat_of (said v) → Flat promise r
  flat_verdict promise a r e = record { verdict = v; kept = a; flat = e }

  pub flat_count : (promise : Verdict → List ℕ → Type 0) {count : List ℕ} → promise v count
      → (r : HouayletanCount) → (r.verdict ≡ flat_of (said v)) × (r.count ≡ count) → FlatCount promise r
  flat_count promise a r (e, f) = record { verdict = v; kept = rw f a; flat = e }

  pub flat_float : (promise : Verdict → Float → Type 0) {count : Float} → promise v count
      → (r : HouayletanFloat) → (r.verdict ≡ flat_of (said v)) × (r.count ≡ count) → FlatFloat promise r
  flat_float promise a r (e, f) = record { verdict = v; kept = rw f a; flat = e }

  pub flat_amount : (promise : Verdict → ℕ → Type 0) {amount : ℕ} → promise v amount
      → (r : HouayletanAmount) → (r.verdict ≡ flat_of (said v)) × (r.amount ≡ amount) → FlatAmount promise r
  flat_amount promise a r (e, f) = record { verdict = v; kept = rw f a; flat = e }

  pub flat_diagram : (promise : Verdict → ℕ → Type 0) {nodes : ℕ} → promise v nodes
      → (r : HouayletanDiagram) → (r.verdict ≡ flat_of (said v)) × (r.nodes ≡ nodes) → FlatDiagram promise r
  flat_diagram promise a r (e, f) = record { verdict = v; kept = rw f a; flat = e }

  pub flat_target : (promise : Verdict → ℕ → ℕ → Type 0) {nodes trials : ℕ} → promise v nodes trials
      → (r : HouayletanApproximation) → (r.verdict ≡ flat_of (said v)) × (r.nodes ≡ nodes) × (r.trials ≡ trials) → FlatTarget promise r
  flat_target promise a r (e, f, g) = record { verdict = v; kept = rw (f, g) a; flat = e }

  -- the operation is asked with the flag that C's number is
  pub flat_target_flagged : (promise : Bool → List ℕ → ℕ → List ℕ → List ℕ → List ℕ → List ℕ → Verdict → ℕ → ℕ → Type 0) {flag asked : Bool} {w : List ℕ} {target : ℕ} {room room' out out' : List ℕ} {nodes trials : ℕ}
      → promise flag w target room room' out out' v nodes trials → flag ≡ asked
      → (r : HouayletanApproximation) → (r.verdict ≡ flat_of (said v)) × (r.nodes ≡ nodes) × (r.trials ≡ trials) → FlatTarget (promise asked w target room room' out out') r
  flat_target_flagged promise a same r (e, f, g) = record { verdict = v; kept = rw (f, g, sym same) a; flat = e }

  -- a yes or a no as a number
  pub flat_answer : {w : List ℕ} {b told : Bool} {room room' : List ℕ} → Tells w b false room room' v told
      → (r : HouayletanAmount) → (r.verdict ≡ flat_of (said v)) × (r.amount ≡ bit told) → FlatAmount (Tells w (bit b) 0 room room') r
  flat_answer {w} {b} {told} {room} a r (e, f) = record {
    verdict = v;
    kept = record { checked = a.checked; told_is = f ∙ ap bit a.told_is ∙ bit_told (verdict_of w Nothing (length room)) b };
    flat = e;
  }
