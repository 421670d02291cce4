-- From the check to the answer.
use Prim.Native.Nat.{ℕ, ◌+◌, ◌*◌, ◌≤◌, ◌<◌}
use mathlib.Core.Path.{◌≡◌, refl, ◌∙◌}
use mathlib.Core.List.{List}
use native.Mathlib.Omega.{arith}
use lib.ListN.{length, get_or}
use Rattle.diagram.specs.Diagram.{size, vars, Ordered}
use Rattle.diagram.specs.Verdict.{Verdict, most, verdict_for, Checked}
use Rattle.diagram.specs.declared.verdict.Output.TheVariants.{Diagram}
use Rattle.diagram.specs.declared.verdict.Extent.{Extent}
use Rattle.diagram.specs.declared.verdict.Refused.{Refused}
use Rattle.std.specs.Prelude.{Ok, Err}
use Rattle.diagram.proofs.Entering.{refusal_is, verdict_is, admitted, ordered, lent_fits, lent_word, lent_enough, builds_refused, builds_accepted}
use Rattle.store.specs.Room.{heads_from, store_to}
use Rattle.reduction.specs.Reduce.{reduce}
use Rattle.reduction.specs.Answer.{Reduces}
use Rattle.reduction.specs.Room.{memo_from, Lent, Answered}

-- A room that is zero has all that is asked for.
pub zero_lends : {w r out : List ℕ} {n v : ℕ} → Ordered w → n ≡ size w → v ≡ vars w → store_to (most w) (most w) ≤ length r
    → ((j : ℕ) → j < store_to (most w) (most w) → get_or r j 0 ≡ 0) → 3 * most w ≤ length out → Lent w r out n v
zero_lends {w} o is_size is_vars long zero output = record {
  asked = record {
    ordered = o;
    is_size = is_size;
    is_vars = is_vars;
    two = omega arith;
    few = let few = o.formed.few in omega arith;
    long = long;
    memo = λ p h. zero (memo_from + p) (omega arith);
    heads = λ h in-h. zero (heads_from (most w) (most w) + h) (omega arith);
  };
  zero = zero;
  output = output;
}

module _ {w room room' : List ℕ} (out : List ℕ) {r : Verdict} (c : Checked w (Diagram (length out)) room room' r) where
  pub reduce_refused : {x : Refused} → r ≡ Err x → Reduces w room room' out out (Err x) 0
  reduce_refused e = builds_refused (verdict_for Diagram w) (reduce w) out c.left refl (refusal_is c e)

  module _ {a : Extent} (e : r ≡ Ok a) where
    pub reduce_asks : Lent w room' out a.nodes a.vars
    reduce_asks =
        let given = admitted c e in
        zero_lends (ordered c e) given.nodes given.variables (lent_fits c e (store_to (most w) (most w)) (omega arith))
        (lent_word c e (store_to (most w) (most w)) (omega arith)) (lent_enough w (length out) given.lent)

    pub reduce_accepted : {room'' out' : List ℕ} {k : ℕ} → Answered w room' out room'' out' k → Reduces w room room'' out out' (Ok a) k
    reduce_accepted b = builds_accepted (verdict_for Diagram w) (reduce w) out (b.room ∙ c.left) refl (verdict_is c e) b.count b.output
