use lib.Dec.{eqb}
use Prim.Native.Nat.{ℕ}
use mathlib.Core.Bool.{not}
use mathlib.Core.Path.{ap}
use Rattle.worths.proofs.flags.differs_at.Goals as goal

pub returns : goal.returns
returns c = ap (λ (x : ℕ). not (eqb x 0)) c.word.ensures
