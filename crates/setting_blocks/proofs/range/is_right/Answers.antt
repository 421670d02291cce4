use Rattle.setting_blocks.proofs.Ranges.{right_direction, right_kind, right_flag, right_decides}
use Rattle.setting_blocks.proofs.range.is_right.Goals as goal

pub returns-then-setting-gt1 : goal.returns-then-setting-gt1
returns-then-setting-gt1 c = right_direction c.args.version c.args.setting c.if-setting-gt1.true

pub returns-then-setting-gt1-2 : goal.returns-then-setting-gt1-2
returns-then-setting-gt1-2 c = right_kind c.args.version c.args.setting c.if-setting-gt1.false c.if-setting-gt1-2.true

pub returns-then-not-flag_fits : goal.returns-then-not-flag_fits
returns-then-not-flag_fits c = right_flag c.args.version c.args.setting c.if-setting-gt1.false c.if-setting-gt1-2.false c.flag_fits.ensures (c.if-not-flag_fits.true)

pub returns : goal.returns
returns c = right_decides c.args.version c.args.setting c.if-setting-gt1.false c.if-setting-gt1-2.false c.flag_fits.ensures (c.if-not-flag_fits.false) c.target_fits.ensures
