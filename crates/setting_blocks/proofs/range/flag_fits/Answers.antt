use Rattle.setting_blocks.proofs.Ranges.{flag_first, flag_later}
use Rattle.setting_blocks.proofs.range.flag_fits.Goals as goal

pub returns-then-version-eq1 : goal.returns-then-version-eq1
returns-then-version-eq1 c = flag_first _ _ c.if-version-eq1.true

pub returns : goal.returns
returns c = flag_later _ _ c.if-version-eq1.false
