use mathlib.Core.Path.{refl, ◌∙◌}
use Rattle.pool_check.proofs.Marking.{named_begin, named_on}
use native.Mathlib.Omega.{arith}
use Rattle.pool_check.proofs.wanted.mark_named.Goals as goal

pub loop-k-init : goal.loop-k-init
loop-k-init c = (named_begin c.args.slots.now c.requires, omega arith, refl)

pub loop-k-preserved : goal.loop-k-preserved
loop-k-preserved c = (
  named_on c.args.slots.now c.loop-k.marks c.loop-k.k c.loop-k.invariant.0 c.word-name.ensures refl c.put.ensures,
  omega arith,
  c.put.auto.room ∙ c.loop-k.invariant.2,
)
