use borrow.Author.Tests.{lt-ltb}
use Rattle.naturals.specs.Natural.{value, limit}
use Rattle.naturals.proofs.Machine.{typed}
use Rattle.naturals.proofs.Answer.{holds_typed, holds_less}
use Rattle.setting_blocks.specs.Settings.{fits}
use Rattle.evening.proofs.Calls.{number_counted}
use Rattle.evening.proofs.words.words_of_cases.Goals as goal

pub returns : goal.returns
unfolding fits
returns c =
    let g = c.well_formed.0.1.1.0 in
    let h = holds_typed (typed c.args.count.words g.0 g.1.0.1 g.1.1) in
    (number_counted h, lt-ltb (value c.args.count.words) limit (holds_less h))
