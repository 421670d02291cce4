use Rattle.setting_blocks.specs.Settings.{flag_at}
use Rattle.setting_blocks.proofs.Answers.{flag_none, flag_there}
use native.Mathlib.Omega.{arith}
use Rattle.setting_blocks.proofs.read.flag_in.Goals as goal

pub returns-then-block-eq1 : goal.returns-then-block-eq1
returns-then-block-eq1 c = flag_none _ c.if-block-eq1.true

pub overflow_cast-result : goal.overflow_cast-result
overflow_cast-result c = omega (arith, c.shared_slice_known-2-1.given flag_at)

pub returns : goal.returns
returns c = flag_there _ c.if-block-eq1.false
