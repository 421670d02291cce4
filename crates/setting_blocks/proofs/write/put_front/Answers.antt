use mathlib.Core.Path.{sym}
use Rattle.naturals.proofs.Machine.{typed}
use Rattle.writing.proofs.Laws.{wrote_then}
use Rattle.setting_blocks.specs.Settings.{newest, front}
use Rattle.setting_blocks.proofs.Ranges.{known_most, right_narrow}
use native.Mathlib.Omega.{arith}
use Rattle.setting_blocks.proofs.write.put_front.Goals as goal

pub overflow_cast-version : goal.overflow_cast-version
overflow_cast-version c = omega (arith, known_most newest c.args.version c.requires.0)

pub overflow_cast-setting : goal.overflow_cast-setting
overflow_cast-setting c = omega (arith, (right_narrow c.args.version c.args.setting c.requires.1).direction)

pub overflow_cast-setting-2 : goal.overflow_cast-setting-2
overflow_cast-setting-2 c = omega (arith, (right_narrow c.args.version c.args.setting c.requires.1).kind)

pub overflow_cast-setting-3 : goal.overflow_cast-setting-3
overflow_cast-setting-3 c = omega (arith, (right_narrow c.args.version c.args.setting c.requires.1).as_is)

pub slice_bounds-put_words-end : goal.slice_bounds-put_words-end
slice_bounds-put_words-end c = sym (let g = c.well_formed.1.1.0.1.1.1.1.1.0 in typed c.args.setting.target g.0 g.1.0.1 g.1.1).count

pub returns : goal.returns
unfolding front
returns c = wrote_then (wrote_then (wrote_then (wrote_then (wrote_then c.put-direction.ensures c.put-kind.ensures) c.put-flag.ensures) c.put-begun.ensures) c.put_words-used.ensures) c.write_zeros.ensures
