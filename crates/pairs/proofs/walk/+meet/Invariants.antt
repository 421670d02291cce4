use Prim.Native.Nat.{◌-◌}
use Rattle.diagram.specs.Diagram.{vars}
use Rattle.pairs.specs.Pairs.{pair, level_of}
use Rattle.pairs.proofs.walk.+meet.Given as goal

abbrev pub decreases-meet : goal.decreases-meet
decreases-meet l = vars l.first.now - level_of l.first.now l.second.now (pair l.p.0 l.q.0)
