-- What the code's steps give, from the check to the answer.
use Prim.Native.Nat.{ℕ, ◌*◌, ◌≤◌, max}
use mathlib.Core.Path.{◌≡◌, refl, sym}
use mathlib.Core.List.{List}
use native.Mathlib.Omega.{arith}
use lib.ListN.{length}
use borrow.Author.Tests.{eq-eqb, ne_eqb}
use Rattle.diagram.specs.Diagram.{size}
use Rattle.diagram.specs.Verdict.{Verdict, verdict_for, Checked}
use Rattle.std.specs.Prelude.{Ok, Err}
use Rattle.diagram.specs.declared.verdict.Extent.{Extent}
use Rattle.diagram.specs.declared.verdict.Refused.{Refused}
use Rattle.diagram.specs.declared.verdict.Output.TheVariants.{Diagram}
use Rattle.diagram.proofs.Tests.{by-eq}
use Rattle.diagram.proofs.Entering.{refusal_is, verdict_is, admitted, lent_enough, builds_refused, builds_accepted}
use Rattle.negation.specs.Negation.{negated, nodes_of, over, Negates, Ready}
use Rattle.negation.proofs.Words.{negated_length}

-- the result has as many words as there are to write
module _ {w : List ℕ} {v : ℕ} (r : Ready w v) (n : ℕ) (en : n ≡ size w) (made : ℕ) (em : made ≡ nodes_of n) where
  pub end_is : 3 * made ≡ length (negated w)
  end_is = rw (em, en) (sym (negated_length w r.formed))

  pub made_is : made ≡ size (negated w)
  made_is = omega (arith, end_is)

nodes_most : (n : ℕ) → nodes_of n ≤ max n 2
unfolding nodes_of
nodes_most n = by-eq n 1
    (λ e. simp (eq-eqb n 1 e) (omega arith))
    (λ ne. by-eq n 2
    (λ e. simp (ne_eqb n 1 ne, eq-eqb n 2 e) (omega arith))
    (λ me. simp (ne_eqb n 1 ne, ne_eqb n 2 me) (omega arith)))

module _ (out : List ℕ) {w room room' : List ℕ} {v : Verdict} (c : Checked w (Diagram (length out)) room room' v) where
  pub negate_refused : {refusal : Refused} → v ≡ Err refusal → Negates w room room' out out (Err refusal) 0
  negate_refused e = builds_refused (verdict_for Diagram w) (negated w) out c.left refl (refusal_is c e)

  module _ {extent : Extent} (e : v ≡ Ok extent) where
    pub negate_asks : (extent.nodes ≡ size w) × Ready w extent.vars × (length (negated w) ≤ length out)
    negate_asks =
        let a = admitted c e in
        (a.nodes, record { formed = a.accepted.formed; count = a.variables }, omega (arith, negated_length w a.accepted.formed, nodes_most (size w), lent_enough w (length out) a.lent))

    pub negate_accepted : (made : ℕ) (out' : List ℕ) → (made ≡ size (negated w)) × (out' ≡ over (negated w) out) → Negates w room room' out out' (Ok extent) made
    negate_accepted made out' r = builds_accepted (verdict_for Diagram w) (negated w) out c.left refl (verdict_is c e) r.0 r.1
