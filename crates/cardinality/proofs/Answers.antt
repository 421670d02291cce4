-- The whole count, and what the public function answers.
use Prim.Native.Nat.{ℕ, ◌+◌, ◌-◌, ◌*◌, ◌^◌, ◌≤◌, ◌<◌}
use mathlib.Core.Path.{◌≡◌, refl, sym, ap, ◌∙◌}
use mathlib.Core.Bool.{true, not}
use mathlib.Core.List.{List, ◌++◌}
use native.Mathlib.Omega.{arith}
use native.Mathlib.Nat.{zero-mul}
use lib.ListN.{length, take, drop, replicate, length-replicate}
use lib.Dec.{T}
use lib.Ieee.{Float, binary64, mul, is_nan, nan_bits, of_bits}
use Rattle.diagram.specs.Limits.{max_nodes}
use Rattle.diagram.specs.Diagram.{var_of, size, vars, root, Ordered}
use Rattle.diagram.specs.Verdict.{Verdict, Outcome, accepted, refused, if_accepted, verdict_of, room_of, Checked}
use Rattle.std.specs.Prelude.{Ok, Err}
use Rattle.diagram.specs.declared.verdict.Extent.{Extent}
use Rattle.diagram.specs.declared.verdict.Refused.{Refused}
use Rattle.diagram.specs.declared.verdict.Output.TheVariants.{Nothing}
use Rattle.diagram.proofs.Meaning.{verdict_accepted}
use Rattle.diagram.proofs.Reading.{layered, root_in, var_most, accepted_ordered}
use Rattle.diagram.proofs.Entering.{when_refused, when_accepted, admitted, ordered, still_checked, lent_fits, lent_zero, lent_back, checked_as}
use Rattle.levels.specs.Chains.{Given}
use Rattle.counts.specs.Worth.{worth_of, doublings}
use Rattle.counts.proofs.Nodes.{worth_end, total_valuations}
use Rattle.cardinality.specs.Cardinality.{nought, power_of_two, cardinality_of, CountsFloat, FloatCount}
use Rattle.cardinality.specs.Table.{bits_at, In, float_of, Floated}
use Rattle.cardinality.proofs.Counts.{float_root, count_stands, false_is_nought, count_exact}
use Rattle.cardinality.proofs.Wholes.{no_nan}
use Rattle.cardinality.proofs.Steps.{read_asks, read_back}

-- ---- the whole

pub zeros_own : (r : List ℕ) (k : ℕ) → r ≡ replicate k 0 → r ≡ replicate (length r) 0
zeros_own r k e = e ∙ ap (λ (n : ℕ). replicate n 0) (sym (ap length e ∙ length-replicate {A = ℕ} k 0))

module _ (w : List ℕ) (n : ℕ) (en : n ≡ size w) (o : Ordered w) where
  -- one node alone is false
  pub alone : n ≡ 1 → {x : Float} → x ≡ nought → x ≡ cardinality_of w
  alone one e =
      let first : root w ≡ 0 = omega arith in
      e ∙ sym (false_is_nought w o (sym (total_valuations w o) ∙ ap (λ (s : ℕ). s * 2 ^ doublings true (var_of w (root w))) (ap (worth_of true w) first ∙ worth_end w o true 0 (omega arith) (omega arith)) ∙ zero-mul (2 ^ doublings true (var_of w (root w)))))

  pub given : (n ≡ 1 → ⊥) → Given w n
  given more = record { ordered = o; nodes = en; two = let s = o.formed.some in omega arith }

  pub above_few : (above : ℕ) → above ≡ var_of w (n - 1) → above < 1024
  above_few above e =
      let m = var_most w (vars w) (size w) (layered w o) (root w) (root_in w o) in
      let u = o.formed.variables in
      let same : var_of w (n - 1) ≡ var_of w (root w) = ap (λ (k : ℕ). var_of w (k - 1)) en in
      omega arith

  module _ {r : List ℕ} (f : Floated w r 0 0) where
    root_noted : bits_at n r (n - 1) ≡ bits_at (size w) r (root w)
    root_noted = ap (λ (k : ℕ). bits_at k r (k - 1)) en

    known : bits_at n r (n - 1) ≡ lib.Ieee.to_bits binary64 (float_of w (root w))
    known = root_noted ∙ f.right (root w) (root_in w o) (record { level = omega arith; turn = λ e. omega arith })

    pub root_asks : In n r (n - 1) × T (not (nan_bits binary64 (bits_at n r (n - 1))))
    root_asks = (
      let s = o.formed.some in omega (arith, f.long),
      read_asks w o (root w) (root_in w o) (bits_at n r (n - 1)) known,
    )

    pub root_done : {x y : Float} (above : ℕ) → above ≡ var_of w (n - 1) → x ≡ of_bits binary64 (bits_at n r (n - 1)) → y ≡ power_of_two above
        → mul binary64 x y ≡ cardinality_of w
    root_done {x} {y} above ea ex ey =
        let a : x ≡ float_of w (root w) = ex ∙ read_back w o (root w) (root_in w o) (bits_at n r (n - 1)) known in
        let b : y ≡ power_of_two (var_of w (root w)) = ey ∙ ap power_of_two (ea ∙ ap (λ (k : ℕ). var_of w (k - 1)) en) in
        rw (a, b) (sym (float_root w o))

-- ---- the answer

module _ {w before after : List ℕ} {v : Verdict} (c : Checked w Nothing before after v) where
  pub count_refused : {refusal : Refused} → v ≡ Err refusal → CountsFloat w before after (Err refusal) nought
  count_refused e = record { checked = rw e at c; counted = sym (when_refused c e (cardinality_of w) nought) }

  module _ {extent : Extent} (e : v ≡ Ok extent) where
    pub count_nodes : extent.nodes ≤ max_nodes
    count_nodes = let a = admitted c e in omega (arith, a.nodes, a.accepted.formed.few)

    used_fits : 3 * extent.nodes ≤ room_of w
    used_fits = omega (arith, (admitted c e).nodes)

    pub count_fits : 3 * extent.nodes ≤ length after
    count_fits = lent_fits c e (3 * extent.nodes) used_fits

    pub count_asks : (extent.nodes ≡ size w) × Ordered w × (extent.vars ≡ vars w) × (take (3 * extent.nodes) after ≡ replicate (3 * extent.nodes) 0)
    count_asks = ((admitted c e).nodes, ordered c e, (admitted c e).variables, lent_zero c e (3 * extent.nodes) used_fits)

    pub count_accepted : {x : Float} {part : List ℕ} → x ≡ cardinality_of w → part ≡ replicate (length (take (3 * extent.nodes) after)) 0
        → CountsFloat w before (part ++ drop (3 * extent.nodes) after) (Ok extent) x
    count_accepted {x} {part} h z = record {
      checked = checked_as (still_checked c e) (lent_back c e (3 * extent.nodes) used_fits part z);
      counted = h ∙ sym (when_accepted c e (cardinality_of w) nought);
    }

zero_no_nan : T (not (is_nan nought))
unfolding is_nan
zero_no_nan = tt

ordered_no_nan : (w : List ℕ) → Ordered w → T (not (is_nan (cardinality_of w)))
ordered_no_nan w o = let s = count_stands w o in no_nan (cardinality_of w) s.number 1 s.whole.value

-- the count is never a NaN
pub never_nan : {w before after : List ℕ} {v : Verdict} {x : Float} → CountsFloat w before after v x → T (not (is_nan x))
never_nan {w} {before} {x = x} r =
    rw r.counted (by_verdict (verdict_of w Nothing (length before)) (λ k u e. ordered_no_nan w (accepted_ordered w (verdict_accepted w Nothing (length before) k u e).accepted)))
  where
    by_verdict : (o : Outcome) → ((k u : ℕ) → o ≡ accepted k u → T (not (is_nan (cardinality_of w)))) → T (not (is_nan (if_accepted o (cardinality_of w) nought)))
    by_verdict (accepted k u) f = f k u refl
    by_verdict (refused k p) f = zero_no_nan

pub float_count : FloatCount
float_count = record { exact = count_exact; none = false_is_nought; never_nan = ordered_no_nan }
