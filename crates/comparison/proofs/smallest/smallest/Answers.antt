use Rattle.comparison.proofs.Search.{find_begins, find_there, find_goes_on, find_ends}
use native.Mathlib.Omega.{arith}
use Rattle.comparison.proofs.smallest.smallest.Goals as goal

pub loop-variable-init : goal.loop-variable-init
loop-variable-init c = find_begins c.requires.0 c.requires.1 c.zero-number.ensures

pub turn-next-requires : goal.turn-next-requires
turn-next-requires c = (c.loop-variable.invariant.searching, omega (arith, c.loop-variable-test.true, c.requires.0.variables))

pub unwrap-number-requires : goal.unwrap-number-requires
unwrap-number-requires c = find_there c.requires.0 c.requires.1 c.loop-variable.invariant c.loop-variable-test.true c.turn-next.ensures c.times_plus.ensures

pub loop-variable-preserved : goal.loop-variable-preserved
loop-variable-preserved c = find_goes_on c.requires.0 c.requires.1 c.loop-variable.invariant c.loop-variable-test.true c.turn-next.ensures c.times_plus.ensures c.unwrap-number.ensures

pub returns : goal.returns
returns c = find_ends c.requires.0 c.requires.1 c.loop-variable.invariant (omega (arith, c.loop-variable-test.false))
