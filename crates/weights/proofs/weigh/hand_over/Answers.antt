use Prim.Native.Nat.{◌+◌, ◌*◌}
use mathlib.Core.Path.{◌≡◌}
use Rattle.naturals.specs.Natural.{word_count}
use Rattle.weights.specs.Passes.{weights_from}
use Rattle.weights.proofs.Entries.{copy_begins, copy_on, handed}
use native.Mathlib.Omega.{arith}
use Rattle.weights.proofs.weigh.hand_over.Goals as goal

pub loop-i-init : goal.loop-i-init
loop-i-init c = copy_begins _ _ _

pub bounds-room-base : goal.bounds-room-base
bounds-room-base c = omega (arith, c.requires.1, c.loop-i-test.true)

pub bounds-output-i : goal.bounds-output-i
bounds-output-i c = omega (arith, c.requires.2, c.loop-i.invariant.kept, c.loop-i-test.true)

pub loop-i-preserved : goal.loop-i-preserved
loop-i-preserved c = copy_on c.loop-i.invariant (omega (arith, c.requires.2, c.loop-i-test.true)) (omega (arith, c.shared_slice_known-1.given (weights_from c.args.nodes + c.loop-i.i)))

pub shape_of-output : goal.shape_of-output
shape_of-output c = c.loop-i.invariant.kept

pub returns : goal.returns
returns c = handed (omega (arith, c.requires.1)) c.requires.2 (let e : c.loop-i.i ≡ word_count * c.args.nodes = omega arith in rw e at c.loop-i.invariant)
