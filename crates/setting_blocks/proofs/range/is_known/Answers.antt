use Rattle.setting_blocks.proofs.Ranges.{known_none, known_some}
use Rattle.setting_blocks.proofs.range.is_known.Goals as goal

pub returns-then-version-eq0 : goal.returns-then-version-eq0
returns-then-version-eq0 c = known_none _ _ c.if-version-eq0.true

pub returns : goal.returns
returns c = known_some _ _ c.if-version-eq0.false
