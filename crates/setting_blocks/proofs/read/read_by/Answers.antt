use mathlib.Core.Path.{ap, sym, ◌∙◌}
use Rattle.setting_blocks.specs.Settings.{right, kept, version_in}
use Rattle.setting_blocks.specs.declared.setting.Setting.{Setting}
use Rattle.setting_blocks.proofs.Testing.{refused_21, refused_22, refused_38}
use Rattle.setting_blocks.proofs.Answers.{read_39, read_24, read_kept}
use native.Mathlib.Omega.{arith}
use Rattle.setting_blocks.proofs.read.read_by.Goals as goal

pub returns-then-block-ne-BLOCK : goal.returns-then-block-ne-BLOCK
returns-then-block-ne-BLOCK c = c.refused.ensures ∙ sym (refused_21 c.args.reader c.args.block.now c.if-block-ne-BLOCK.true)

pub returns-then-not-sums_right : goal.returns-then-not-sums_right
returns-then-not-sums_right c = c.refused-then-not-sums_right.ensures ∙ sym (refused_22 c.args.reader c.args.block.now c.if-block-ne-BLOCK.false (sym c.sums_right.ensures ∙ c.if-not-sums_right.true))

pub overflow_cast-version : goal.overflow_cast-version
overflow_cast-version c = omega (arith, c.shared_slice_known-2-1.given 0)

pub returns-then-not-is_known : goal.returns-then-not-is_known
returns-then-not-is_known c = c.refused-then-not-is_known.ensures ∙ sym (refused_38 c.args.reader c.args.block.now c.if-block-ne-BLOCK.false (sym c.sums_right.ensures ∙ c.if-not-sums_right.false) (sym c.is_known.ensures ∙ c.if-not-is_known.true))

pub returns-then-not-right : goal.returns-then-not-right
returns-then-not-right c = c.refused-then-not-right.ensures ∙ read_39 c.args.reader c.args.block.now c.if-block-ne-BLOCK.false (sym c.sums_right.ensures ∙ c.if-not-sums_right.false) (sym c.is_known.ensures ∙ c.if-not-is_known.false) (ap (λ (x : Setting). right (version_in c.args.block.now) x) (sym c.setting_in-setting.ensures) ∙ sym c.is_right-right.ensures ∙ c.if-not-right.true)

pub returns-then-not-clean : goal.returns-then-not-clean
returns-then-not-clean c = c.refused-then-not-clean.ensures ∙ read_24 c.args.reader c.args.block.now c.if-block-ne-BLOCK.false (sym c.sums_right.ensures ∙ c.if-not-sums_right.false) (sym c.is_known.ensures ∙ c.if-not-is_known.false) (ap (λ (x : Setting). right (version_in c.args.block.now) x) (sym c.setting_in-setting.ensures) ∙ sym c.is_right-right.ensures ∙ c.if-not-right.false) (sym c.unused_zero-clean.ensures ∙ c.if-not-clean.true)

pub returns : goal.returns
returns c = ap (λ (x : Setting). kept (version_in c.args.block.now) x) c.setting_in-setting.ensures ∙ read_kept c.args.reader c.args.block.now c.if-block-ne-BLOCK.false (sym c.sums_right.ensures ∙ c.if-not-sums_right.false) (sym c.is_known.ensures ∙ c.if-not-is_known.false) (ap (λ (x : Setting). right (version_in c.args.block.now) x) (sym c.setting_in-setting.ensures) ∙ sym c.is_right-right.ensures ∙ c.if-not-right.false) (sym c.unused_zero-clean.ensures ∙ c.if-not-clean.false)
