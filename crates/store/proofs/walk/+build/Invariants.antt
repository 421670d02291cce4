use Prim.Native.Nat.{◌-◌}
use Rattle.diagram.specs.Diagram.{var_of, vars}
use Rattle.store.proofs.walk.+build.Given as goal

abbrev pub decreases-build : goal.decreases-build
decreases-build l = vars l.words.now - var_of l.words.now l.node.0
