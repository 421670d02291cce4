use Prim.Native.Nat.{◌-◌}
use Rattle.diagram.specs.Diagram.{var_of, vars}
use Rattle.summary_count.proofs.slots.+stamp.Given as goal

abbrev pub decreases-stamp : goal.decreases-stamp
decreases-stamp l = vars l.table.now - var_of l.table.now l.node.0
