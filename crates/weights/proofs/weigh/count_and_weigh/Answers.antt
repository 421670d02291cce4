use mathlib.Core.Path.{sym}
use lib.Seq.{length-take-le}
use Rattle.weights.proofs.Both.{both_few, both_front}
use Rattle.weights.proofs.Entries.{stands}
use Rattle.weights.specs.Passes.{weights_to}
use native.Mathlib.Omega.{arith}
use Rattle.weights.proofs.weigh.count_and_weigh.Goals as goal

pub overflow_mul-used : goal.overflow_mul-used
overflow_mul-used c = omega (arith, both_few c.requires)

pub slice_bounds-passes-end : goal.slice_bounds-passes-end
slice_bounds-passes-end c = c.requires.long

pub slice_bounds-passes-end-2 : goal.slice_bounds-passes-end-2
slice_bounds-passes-end-2 c = sym (length-take-le (weights_to c.args.nodes) c.args.room.now c.requires.long)

pub passes-requires : goal.passes-requires
passes-requires c = both_front c.requires

pub returns : goal.returns
returns c = (stands c.args.room.now c.passes.new.part c.requires.long c.passes.auto.part c.passes.ensures.weight, c.passes.ensures.count)
