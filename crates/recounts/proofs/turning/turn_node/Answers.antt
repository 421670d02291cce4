use Rattle.recounts.proofs.Turned.{opposing_variable, opposes, opposed}
use native.Mathlib.Omega.{arith}
use Rattle.recounts.proofs.turning.turn_node.Goals as goal

pub overflow_mul-nodes : goal.overflow_mul-nodes
overflow_mul-nodes c = omega (arith, c.requires.few)

pub overflow_sub-vars : goal.overflow_sub-vars
overflow_sub-vars c = opposing_variable c.requires c.var_of-variable.ensures

pub subtract_from_power-requires : goal.subtract_from_power-requires
subtract_from_power-requires c = opposes c.requires c.var_of-variable.ensures (omega (arith, c.place.ensures))

pub returns : goal.returns
returns c = opposed c.requires c.var_of-variable.ensures (omega (arith, c.place.ensures)) c.subtract_from_power.ensures
