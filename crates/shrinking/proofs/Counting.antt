-- Counts of accepted diagrams.
use Prim.Native.Nat.{ℕ, ◌*◌, ◌≤◌}
use mathlib.Core.Path.{◌≡◌, refl, ◌∙◌}
use mathlib.Core.Bool.{true}
use mathlib.Core.List.{List}
use native.Mathlib.Omega.{arith}
use lib.ListN.{length}
use Rattle.naturals.specs.Natural.{value}
use Rattle.diagram.specs.Diagram.{size, vars, Accepted}
use Rattle.diagram.specs.Valuations.{count_of}
use Rattle.diagram.specs.Verdict.{said, accepted, short, room_of, verdict_of, verdict_in}
use Rattle.diagram.specs.declared.verdict.Output.TheVariants.{Nothing}
use Rattle.diagram.proofs.Meaning.{accepted_verdict}
use Rattle.std.specs.Prelude.{Result, Ok, Err, is_ok}
use Rattle.naturals.specs.declared.Natural.{Natural}
use Rattle.diagram.specs.declared.verdict.Finding.{Finding}
use Rattle.diagram.specs.declared.verdict.Refused.{Refused}
use Rattle.counts.specs.Counted.{Counts, words_in}
use Rattle.report.specs.Report.{room_lent}

module _ (w before after : List ℕ) (r : Result (Finding Natural) Refused) (h : Counts w (count_of w) before after (verdict_in r) (words_in r))
    (l : room_lent ≤ length before) (a : Accepted w) where
  verdict_is : verdict_of w Nothing (length before) ≡ accepted (size w) (vars w)
  unfolding short
  verdict_is =
      let room : room_of w ≤ length before = omega (arith, a.formed.few) in
      accepted_verdict w Nothing (length before) a refl room

  -- An accepted diagram is counted.
  pub is_counted : is_ok r ≡ true
  is_counted = by_result r (h.checked.verdict ∙ verdict_is)
    where
      by_result : (x : Result (Finding Natural) Refused) → said (verdict_in x) ≡ accepted (size w) (vars w) → is_ok x ≡ true
      by_result (Ok x) e = refl
      by_result (Err x) e = let z : ◌≡◌ {A = ℕ} 0 1 = cc in absurd (omega arith)

  pub count_is : {found : Finding Natural} → r ≡ Ok found → value found.value.words ≡ count_of w
  count_is e = (rw (verdict_is, e) at h.counted).worth
