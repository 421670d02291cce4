use mathlib.Core.Path.{◌∙◌, ap}
use Prim.Native.Nat.{ℕ}
use lib.ListN.{get_or}
use Rattle.levels.proofs.next_of.Goals as goal

pub returns : goal.returns
returns c = c.word.ensures ∙ ap (λ (i : ℕ). get_or c.args.room.now i 0) c.to_index.ensures
