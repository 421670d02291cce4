use mathlib.Core.Path.{◌≡◌}
use lib.ListN.{length}
use Rattle.recounts.specs.Kept.{AtLevel}
use Rattle.recounts.proofs.renewal.level.Given as goal

abbrev pub invariant-loop-node : goal.invariant-loop-node
invariant-loop-node l = AtLevel l.words l.initial.room l.changed l.room l.variable l.node.0 × (length l.changed ≡ length l.initial.changed)

abbrev pub decreases-loop-node : goal.decreases-loop-node
decreases-loop-node l = l.node.0
