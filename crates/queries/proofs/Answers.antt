-- What the queries answer, from the check on.
use Prim.Native.Nat.{ℕ, ◌≤◌}
use mathlib.Core.Path.{◌≡◌, refl, sym, ◌∙◌}
use mathlib.Core.Bool.{false}
use mathlib.Core.List.{List, ◌++◌}
use native.Mathlib.Omega.{arith}
use lib.ListN.{length, drop}
use borrow.Author.Tests.{ltb-false}
use Rattle.diagram.specs.Limits.{max_variables}
use Rattle.diagram.specs.Diagram.{size, vars, Formed, Ordered}
use Rattle.diagram.specs.Verdict.{Verdict, short, verdict_for, Checked}
use Rattle.std.specs.Prelude.{Ok, Err}
use Rattle.diagram.specs.declared.verdict.Extent.{Extent}
use Rattle.diagram.specs.declared.verdict.Refused.{Refused}
use Rattle.diagram.specs.declared.verdict.Output.TheVariants.{Nothing, PerVariable}
use Rattle.diagram.proofs.Entering.{refusal_is, verdict_is, when_refused, when_accepted, admitted, ordered, still_checked, answers_refused, answers_accepted}
use Rattle.queries.specs.Queries.{Tells, Lists, table, nodes_at}
use Rattle.queries.proofs.Listing.{table_length}

module _ {w room room' : List ℕ} {v : Verdict} (c : Checked w Nothing room room' v) where
  pub tell_refused : {refusal : Refused} → v ≡ Err refusal → {A : Type 0} (right none : A) → Tells w right none room room' (Err refusal) none
  tell_refused e right none = record { checked = rw e at c; told_is = sym (when_refused c e right none) }

  module _ {extent : Extent} (e : v ≡ Ok extent) where
    pub tell_counts : (extent.nodes ≡ size w) × (extent.vars ≡ vars w) × Ordered w
    tell_counts = let a = admitted c e in (a.nodes, a.variables, ordered c e)

    pub tell_accepted : {A : Type 0} (right none told : A) → told ≡ right → Tells w right none room room' (Ok extent) told
    tell_accepted right none told x = record { checked = still_checked c e; told_is = x ∙ sym (when_accepted c e right none) }

listed_enough : (w : List ℕ) (lent : ℕ) → short w (PerVariable lent) ≡ false → max_variables ≤ lent
unfolding short
listed_enough w lent e = ltb-false lent max_variables e

module _ (out : List ℕ) {w room room' : List ℕ} {v : Verdict} (c : Checked w (PerVariable (length out)) room room' v) where
  abbrev sizes : List ℕ
  sizes = table (vars w) (nodes_at w)

  pub list_refused : {refusal : Refused} → v ≡ Err refusal → Lists w room room' out out (Err refusal)
  list_refused e = answers_refused (verdict_for PerVariable w) PerVariable sizes out c.left refl (refusal_is c e)

  module _ {extent : Extent} (e : v ≡ Ok extent) where
    pub list_asks : (extent.nodes ≡ size w) × (extent.vars ≡ vars w) × Formed w × (extent.vars ≤ length out)
    list_asks =
        let a = admitted c e in
        (a.nodes, a.variables, a.accepted.formed, omega (arith, a.variables, a.accepted.formed.variables, listed_enough w (length out) a.lent))

    pub list_accepted : (out' : List ℕ) → out' ≡ sizes ++ drop (vars w) out → Lists w room room' out out' (Ok extent)
    list_accepted out' x =
        answers_accepted (verdict_for PerVariable w) PerVariable sizes out c.left refl (verdict_is c e)
        (rw (table_length (vars w) (nodes_at w)) x)
