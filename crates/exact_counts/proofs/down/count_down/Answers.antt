use mathlib.Core.Path.{refl, ◌∙◌, ◌≡◌}
use Rattle.exact_counts.proofs.Descent.{all_down}
use native.Mathlib.Omega.{arith}
use Rattle.exact_counts.proofs.down.count_down.Goals as goal

pub terminals-requires : goal.terminals-requires
terminals-requires c = (c.requires.0, c.requires.1, c.requires.2)

pub loop-c-init : goal.loop-c-init
loop-c-init c = (rw c.requires.3 c.terminals.ensures, omega arith, refl)

pub level-requires : goal.level-requires
level-requires c = all_down c.requires.0 c.requires.1 c.requires.3 c.loop-c.invariant.1 c.loop-c-test.true c.loop-c.invariant.0

pub loop-c-preserved : goal.loop-c-preserved
loop-c-preserved c = (c.level.ensures, omega (arith, c.loop-c.invariant.1), c.level.auto.room ∙ c.loop-c.invariant.2)

pub shape_of-room : goal.shape_of-room
shape_of-room c = c.loop-c.invariant.2 ∙ c.terminals.auto.room

pub returns : goal.returns
returns c = let e : c.loop-c.c ≡ 0 = omega arith in rw e at c.loop-c.invariant.0
