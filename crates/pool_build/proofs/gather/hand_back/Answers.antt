use mathlib.Core.Path.{◌∙◌}
use Rattle.pool_build.proofs.Replacing.{handed_back}
use Rattle.pool_build.proofs.gather.hand_back.Goals as goal

pub returns : goal.returns
returns c = handed_back c.requires c.clear.ensures (c.copy.auto.output ∙ c.clear.auto.room) c.copy.ensures c.copy-2.auto.output c.copy-2.ensures
