use Rattle.writing.proofs.Laws.{wrote_then}
use native.Mathlib.Omega.{arith}
use Rattle.blocks.proofs.fields.store_four.Goals as goal

pub returns : goal.returns
returns c = (omega (arith, c.store_two-next.ensures.0, c.store_two.ensures.0), wrote_then c.store_two-next.ensures.1 c.store_two.ensures.1)
