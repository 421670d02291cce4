use mathlib.Core.Path.{◌∙◌}
use Rattle.setting_blocks.proofs.Words.{words_typed}
use Rattle.naturals.proofs.Answer.{holds_typed, holds_less}
use Rattle.setting_blocks.proofs.Ranges.{fits_count, fits_size}
use native.Mathlib.Omega.{arith}
use Rattle.setting_blocks.proofs.range.target_fits.Goals as goal

pub returns-then-kind-ne0 : goal.returns-then-kind-ne0
returns-then-kind-ne0 c = fits_count _ _ c.if-kind-ne0.true (holds_less (holds_typed (words_typed c.args.target c.well_formed.1.0)))

pub returns : goal.returns
returns c = c.at_most.ensures ∙ fits_size _ _ _ c.if-kind-ne0.false (omega (arith, c.from.ensures.worth))
