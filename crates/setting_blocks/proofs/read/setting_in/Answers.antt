use Rattle.setting_blocks.specs.Settings.{direction_at, kind_at}
use Rattle.setting_blocks.proofs.Answers.{setting_is}
use native.Mathlib.Omega.{arith}
use Rattle.setting_blocks.proofs.read.setting_in.Goals as goal

pub overflow_cast-result : goal.overflow_cast-result
overflow_cast-result c = omega (arith, c.shared_slice_known-2-1.given direction_at)

pub overflow_cast-result-2 : goal.overflow_cast-result-2
overflow_cast-result-2 c = omega (arith, c.shared_slice_known-3-1.given kind_at)

pub returns : goal.returns
returns c = setting_is c.args.block.now c.flag_in.ensures c.target_in-target.ensures
