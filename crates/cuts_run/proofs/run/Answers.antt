use mathlib.Core.Path.{refl, ◌∙◌}
use native.Mathlib.Omega.{arith}
use Rattle.cuts_run.proofs.run.Goals as goal

pub loop-at-init : goal.loop-at-init
loop-at-init c = (refl, refl, refl, omega arith)

pub loop-at-smaller : goal.loop-at-smaller
loop-at-smaller c = omega (arith, c.one_line-at.ensures)

pub loop-at-preserved : goal.loop-at-preserved
loop-at-preserved c = (c.one_line-at.auto.words ∙ c.loop-at.invariant.0, c.one_line-at.auto.output ∙ c.loop-at.invariant.1, c.one_line-at.auto.room ∙ c.loop-at.invariant.2, c.one_line-at.ensures.1)

pub shape_of-words : goal.shape_of-words
shape_of-words c = c.loop-at.invariant.0

pub shape_of-output : goal.shape_of-output
shape_of-output c = c.loop-at.invariant.1

pub shape_of-room : goal.shape_of-room
shape_of-room c = c.loop-at.invariant.2
