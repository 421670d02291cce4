use mathlib.Core.Path.{refl}
use Rattle.pool_build.proofs.Composing.{diagram_small, diagram_goes}
use native.Mathlib.Omega.{arith}
use Rattle.pool_build.proofs.place.build_diagram.Goals as goal

pub overflow_add-made : goal.overflow_add-made
overflow_add-made c = omega (arith, diagram_small c.requires refl c.build-made.ensures)

pub returns : goal.returns
returns c = diagram_goes c.requires refl c.build-made.ensures c.args.slot c.args.names.now c.put.ensures c.build-made.auto.room
