use lib.ListN.{set}
use mathlib.Core.Path.{ap, ◌∙◌}
use Prim.Native.Nat.{ℕ, ◌+◌}
use Rattle.cuts.proofs.marks.mark.Goals as goal

pub returns : goal.returns
returns c = c.put.ensures ∙ ap (λ (i : ℕ). set c.args.room.now (c.args.most + i) 1) c.to_index.ensures
