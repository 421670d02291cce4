-- After an addition, a drop or a summary that is answered the summary is the one worked out afresh, and nothing behind it has changed.
use Prim.Native.Nat.{ℕ}
use mathlib.Core.Path.{◌≡◌, sym, ap, ◌∙◌}
use mathlib.Core.List.{List}
use lib.ListN.{length}
use Rattle.diagram.specs.Verdict.{Verdict, Outcome, accepted, said, if_accepted}
use Rattle.summary.specs.Kept.{renewed, add_beside, drop_beside, summarized, AddsBeside, DropsBeside, Summarizes}
use Rattle.summary.specs.Summaries.{Renewed}
use Rattle.summary.proofs.Counting.{renewed_front, renewed_behind}

pub is_renewed : (t s kept : List ℕ) → Renewed t s kept (renewed t s kept)
is_renewed t s kept = record { fresh = renewed_front t s kept; behind = renewed_behind t s kept }

when_accepted : (o : Outcome) (n v : ℕ) (t s kept kept' : List ℕ) → o ≡ accepted n v → kept' ≡ if_accepted o (renewed t s kept) kept → Renewed t s kept kept'
when_accepted o n v t s kept kept' e is =
    rw (is ∙ ap (λ (x : Outcome). if_accepted x (renewed t s kept) kept) e) (is_renewed t s kept)

pub renewed_by_add : (t s kept w : List ℕ) (k : ℕ) (t' s' kept' room room' : List ℕ) (r : Verdict) (n v : ℕ)
    → AddsBeside t s kept w k t' s' kept' room room' r → said r ≡ accepted n v → Renewed t' s' kept kept'
renewed_by_add t s kept w k t' s' kept' room room' r n v a e =
    when_accepted (add_beside t s kept w (length room) k) n v t' s' kept kept' (sym a.verdict ∙ e) a.summary

pub renewed_by_drop : (t s kept : List ℕ) (k : ℕ) (t' s' kept' : List ℕ) (r : Verdict) (n v : ℕ)
    → DropsBeside t s kept k t' s' kept' r → said r ≡ accepted n v → Renewed t' s' kept kept'
renewed_by_drop t s kept k t' s' kept' r n v d e =
    when_accepted (drop_beside t s kept k) n v t' s' kept kept' (sym d.verdict ∙ e) d.summary

pub renewed_by_summarize : (t s kept kept' : List ℕ) (r : Verdict) (n v : ℕ) → Summarizes t s kept kept' r → said r ≡ accepted n v → Renewed t s kept kept'
renewed_by_summarize t s kept kept' r n v d e = when_accepted (summarized t s kept) n v t s kept kept' (sym d.verdict ∙ e) d.summary
