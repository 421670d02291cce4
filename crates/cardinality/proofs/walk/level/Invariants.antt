use mathlib.Core.Path.{◌≡◌}
use lib.ListN.{length}
use Rattle.cardinality.specs.Table.{At}
use Rattle.cardinality.proofs.walk.level.Given as goal

abbrev pub invariant-loop-node : goal.invariant-loop-node
invariant-loop-node l = At l.words l.room l.variable l.node.0 × (length l.room ≡ length l.initial.room)

abbrev pub decreases-loop-node : goal.decreases-loop-node
decreases-loop-node l = l.node.0
