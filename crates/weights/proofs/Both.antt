-- Count and weights together: what the two passes begin with, and what they give.
use Prim.Native.Nat.{ℕ, ◌+◌, ◌*◌, ◌≤◌, ◌<◌}
use mathlib.Core.Path.{◌≡◌, refl, sym}
use mathlib.Core.Bool.{true}
use mathlib.Core.List.{List}
use native.Mathlib.Omega.{arith}
use lib.ListN.{length, take, replicate}
use lib.Seq.{length-take-le}
use Rattle.naturals.specs.Natural.{word_count, Holds}
use Rattle.naturals.proofs.Answer.{holds_as}
use Rattle.diagram.specs.Limits.{max_nodes}
use Rattle.diagram.specs.Diagram.{size}
use Rattle.diagram.specs.Valuations.{count_of}
use Rattle.levels.specs.Chains.{chain_count}
use Rattle.counts.specs.Table.{In, Noted}
use Rattle.counts.specs.Worth.{Totalling, Totalled}
use Rattle.counts.proofs.Nodes.{total_valuations}
use Rattle.weights.specs.Passes.{weights_from, weights_to, Weighable, Rising, Tables, Both}
use Rattle.weights.proofs.Ascent.{rises}
use Rattle.weights.proofs.Visits.{weight_of_zero}

module _ {w part : List ℕ} {n v : ℕ} (a : Weighable w part n v) where
  pub both_few : n ≤ max_nodes
  both_few = let few = a.ordered.formed.few in let is = a.nodes in omega arith

  -- the first words of a room are enough
  pub both_front : Weighable w (take (weights_to n) part) n v
  both_front =
      let long = length-take-le (weights_to n) part a.long in
      record { ordered = a.ordered; nodes = a.nodes; variables = a.variables; long = omega arith }

  pub both_counts : Totalling w (replicate chain_count 0) part n v
  both_counts =
      let long = a.long in
      record { ordered = a.ordered; nodes = a.nodes; variables = a.variables; empty = refl; long = omega arith }

  module _ {heads counted words : List ℕ} (same : length counted ≡ length part) (t : Totalled true w heads counted words) where
    count_is : Holds (count_of w) words
    count_is = holds_as (total_valuations w a.ordered) t.total

    pub both_place : In (weights_from n) counted 0
    both_place =
        let some = a.ordered.formed.some in
        let is = a.nodes in
        let long = a.long in
        omega arith

    -- one node alone: nobody has a path to it that is held
    pub both_one : n ≡ 1 → {after : List ℕ} → Noted (weights_from n) counted 0 0 after → Both w n after words
    both_one one m = record {
      weight = λ p h. let first : p ≡ 0 = omega arith in rw first (holds_as (sym (weight_of_zero w)) m.here);
      count = count_is;
    }

    pub both_rises : (n ≡ 1 → ⊥) → Rising w heads (weights_from n) counted n v
    both_rises more =
        let some = a.ordered.formed.some in
        let is = a.nodes in
        let long = a.long in
        rises (record { ordered = a.ordered; nodes = is; two = omega arith }) a.variables (t.head (omega arith)) (t.worths (omega arith)) (omega arith)

    pub both_done : {after : List ℕ} → Tables w n after → Both w n after words
    both_done x = record { weight = x.weight; count = count_is }
