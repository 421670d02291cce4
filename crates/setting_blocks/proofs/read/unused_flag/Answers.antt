use Rattle.setting_blocks.specs.Settings.{flag_at}
use Rattle.setting_blocks.proofs.Answers.{byte_unused, byte_used}
use native.Mathlib.Omega.{arith}
use Rattle.setting_blocks.proofs.read.unused_flag.Goals as goal

pub returns-then-block-ne1 : goal.returns-then-block-ne1
returns-then-block-ne1 c = byte_used _ c.if-block-ne1.true

pub overflow_cast-result : goal.overflow_cast-result
overflow_cast-result c = omega (arith, c.shared_slice_known-2-1.given flag_at)

pub returns : goal.returns
returns c = byte_unused _ c.if-block-ne1.false
