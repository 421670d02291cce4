-- Keep only overapproximates, suppress only underapproximates: for every request and every diagram that is accepted.
use Prim.Native.Nat.{ℕ, ◌≤◌}
use mathlib.Core.Path.{◌≡◌, refl}
use mathlib.Core.Bool.{Bool, true, false}
use mathlib.Core.List.{List}
use native.Mathlib.Omega.{arith}
use Rattle.diagram.specs.Diagram.{size, Accepted}
use Rattle.diagram.specs.Valuations.{count_of}
use Rattle.diagram.specs.Verdict.{Outcome, accepted, refused, and_then, verdict_of}
use Rattle.diagram.specs.declared.verdict.Output.TheVariants.{Diagram}
use Rattle.diagram.proofs.Meaning.{verdict_accepted, Admitted}
use Rattle.reduction.specs.Reduce.{reduce}
use Rattle.approximation.specs.Cut.{Under, Over}
use Rattle.approximation.specs.Demand2.{Demand2}
use Rattle.approximation.proofs.Listing.{under_count_own, over_count_own}
use Rattle.approximation.proofs.Sizing.{under_size_own, over_size_own}
use Rattle.approximation.proofs.Demand2.{demand2}
use Rattle.request.specs.Request.{Aim, nodes, cases}
use Rattle.shrinking.specs.Shrinking.{wanted, wanted_verdict}

pub then_first : (x y : Outcome) {n v : ℕ} → and_then x y ≡ accepted n v → (m : ℕ) × (u : ℕ) × (x ≡ accepted m u) × (y ≡ accepted n v)
then_first (accepted m u) y e = (m, u, refl, e)
then_first (refused k p) y e = let z : ◌≡◌ {A = ℕ} 0 1 = cc in absurd (omega arith)

-- ---- the check is passed

first_of : (keep : Bool) (aim : Aim) (w : List ℕ) (room lent : ℕ) {n v : ℕ} → wanted_verdict keep aim w room lent ≡ accepted n v
    → (m : ℕ) × (u : ℕ) × (verdict_of w (Diagram lent) room ≡ accepted m u)
unfolding wanted_verdict
first_of true (nodes t) w room lent e = let a = then_first (verdict_of w (Diagram lent) room) _ e in (a.0, a.1, a.2)
first_of false (nodes t) w room lent e = let a = then_first (verdict_of w (Diagram lent) room) _ e in (a.0, a.1, a.2)
first_of true (cases k) w room lent e = let a = then_first (verdict_of w (Diagram lent) room) _ e in (a.0, a.1, a.2)
first_of false (cases k) w room lent e = let a = then_first (verdict_of w (Diagram lent) room) _ e in (a.0, a.1, a.2)

pub admitted : (keep : Bool) (aim : Aim) (w : List ℕ) (room lent : ℕ) {n v : ℕ} → wanted_verdict keep aim w room lent ≡ accepted n v
    → (m : ℕ) × (u : ℕ) × Admitted w (Diagram lent) room m u
admitted keep aim w room lent e =
    let a = first_of keep aim w room lent e in
    (a.0, a.1, verdict_accepted w (Diagram lent) room a.0 a.1 a.2)

module _ (as_is : Bool) (w : List ℕ) (room lent : ℕ) {n v : ℕ} where
  -- A keep condition holds wherever it held, and the target is met.
  pub keep_nodes : (t : ℕ) → wanted_verdict true (nodes t) w room lent ≡ accepted n v
      → Over w (wanted true as_is (nodes t) w).words × (size (wanted true as_is (nodes t) w).words ≤ t)
  unfolding wanted wanted_verdict
  keep_nodes t e =
      demand2.size_over as_is w t (admitted true (nodes t) w room lent e).2.accepted (over_size_own w t (then_first (verdict_of w (Diagram lent) room) _ e).3)

  pub keep_cases : (k : ℕ) → wanted_verdict true (cases k) w room lent ≡ accepted n v
      → Over w (wanted true as_is (cases k) w).words × (k ≤ count_of (wanted true as_is (cases k) w).words)
  unfolding wanted wanted_verdict
  keep_cases k e =
      demand2.count_over as_is w k (admitted true (cases k) w room lent e).2.accepted (over_count_own w k (then_first (verdict_of w (Diagram lent) room) _ e).3)

  pub keep_over : (aim : Aim) → wanted_verdict true aim w room lent ≡ accepted n v → Over w (wanted true as_is aim w).words
  keep_over (nodes t) e = (keep_nodes t e).0
  keep_over (cases k) e = (keep_cases k e).0

  -- A suppress condition holds only where it held, and the target is met.
  pub suppress_nodes : (t : ℕ) → wanted_verdict false (nodes t) w room lent ≡ accepted n v
      → Under w (wanted false as_is (nodes t) w).words × (size (wanted false as_is (nodes t) w).words ≤ t)
  unfolding wanted wanted_verdict
  suppress_nodes t e =
      demand2.size_under as_is w t (admitted false (nodes t) w room lent e).2.accepted (under_size_own w t (then_first (verdict_of w (Diagram lent) room) _ e).3)

  pub suppress_cases : (k : ℕ) → wanted_verdict false (cases k) w room lent ≡ accepted n v
      → Under w (wanted false as_is (cases k) w).words × (count_of (wanted false as_is (cases k) w).words ≤ k)
  unfolding wanted wanted_verdict
  suppress_cases k e =
      demand2.count_under as_is w k (admitted false (cases k) w room lent e).2.accepted (under_count_own w k (then_first (verdict_of w (Diagram lent) room) _ e).3)

  pub suppress_under : (aim : Aim) → wanted_verdict false aim w room lent ≡ accepted n v → Under w (wanted false as_is aim w).words
  suppress_under (nodes t) e = (suppress_nodes t e).0
  suppress_under (cases k) e = (suppress_cases k e).0

  pub answer_accepted : (keep : Bool) (aim : Aim) → wanted_verdict keep aim w room lent ≡ accepted n v → Accepted (wanted keep as_is aim w).words
  answer_accepted true aim e = (keep_over aim e).accepted
  answer_accepted false aim e = (suppress_under aim e).accepted

-- Without the flag the answer is reduced.
pub answer_least : (w : List ℕ) (room lent : ℕ) {n v : ℕ} (keep : Bool) (aim : Aim) → wanted_verdict keep aim w room lent ≡ accepted n v
    → reduce (wanted keep false aim w).words ≡ (wanted keep false aim w).words
unfolding wanted wanted_verdict
answer_least w room lent true (nodes t) e = (demand2.settles_size_over w t (admitted true (nodes t) w room lent e).2.accepted).reduced
answer_least w room lent false (nodes t) e = (demand2.settles_size_under w t (admitted false (nodes t) w room lent e).2.accepted).reduced
answer_least w room lent true (cases k) e =
    (demand2.settles_count_over w k (admitted true (cases k) w room lent e).2.accepted (over_count_own w k (then_first (verdict_of w (Diagram lent) room) _ e).3)).reduced
answer_least w room lent false (cases k) e =
    (demand2.settles_count_under w k (admitted false (cases k) w room lent e).2.accepted (under_count_own w k (then_first (verdict_of w (Diagram lent) room) _ e).3)).reduced
