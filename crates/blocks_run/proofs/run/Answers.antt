use mathlib.Core.Path.{refl, ◌∙◌}
use native.Mathlib.Omega.{arith}
use Rattle.blocks_run.proofs.run.Goals as goal

pub loop-at-init : goal.loop-at-init
loop-at-init c = (refl, omega arith)

pub loop-at-smaller : goal.loop-at-smaller
loop-at-smaller c = omega (arith, c.one_line-at.ensures)

pub loop-at-preserved : goal.loop-at-preserved
loop-at-preserved c = (c.one_line-at.auto.words ∙ c.loop-at.invariant.0, c.one_line-at.ensures.1)

pub shape_of-words : goal.shape_of-words
shape_of-words c = c.loop-at.invariant.0
