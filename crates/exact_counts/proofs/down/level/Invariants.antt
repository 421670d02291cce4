use mathlib.Core.Path.{◌≡◌}
use lib.ListN.{length}
use Rattle.counts.specs.Worth.{AtDown}
use Rattle.exact_counts.proofs.down.level.Given as goal

abbrev pub invariant-loop-node : goal.invariant-loop-node
invariant-loop-node l = AtDown l.valuations l.words l.room l.variable l.node.0 × (length l.room ≡ length l.initial.room)

abbrev pub decreases-loop-node : goal.decreases-loop-node
decreases-loop-node l = l.node.0
