use Prim.Native.Nat.{◌-◌}
use Rattle.recounts.proofs.Turned.{turn_few, turn_starts, turn_opposes, turn_on, turn_ends}
use native.Mathlib.Omega.{arith}
use Rattle.recounts.proofs.turning.turn.Goals as goal

pub turn_node-requires : goal.turn_node-requires
turn_node-requires c = turn_opposes c.requires c.loop-p.invariant.1 c.loop-p-test.true c.loop-p.invariant.0

pub loop-p-preserved : goal.loop-p-preserved
loop-p-preserved c = (turn_on c.requires c.loop-p.invariant.1 c.loop-p-test.true c.loop-p.invariant.0 c.turn_node.ensures, omega (arith, c.loop-p.invariant.1), omega (arith, c.loop-p-test.true))
