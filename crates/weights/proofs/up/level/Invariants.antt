use mathlib.Core.Path.{◌≡◌}
use lib.ListN.{length}
use Rattle.weights.specs.Passes.{AtUp}
use Rattle.weights.proofs.up.level.Given as goal

abbrev pub invariant-loop-node : goal.invariant-loop-node
invariant-loop-node l = AtUp l.words l.base l.room l.variable l.node.0 × (length l.room ≡ length l.initial.room)

abbrev pub decreases-loop-node : goal.decreases-loop-node
decreases-loop-node l = l.node.0
