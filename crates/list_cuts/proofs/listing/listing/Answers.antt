use Rattle.list_cuts.proofs.Checks.{says_13, says_14, says_fine}
use mathlib.Core.Path.{sym, ◌∙◌}
use Rattle.list_cuts.proofs.listing.listing.Goals as goal

pub returns-in-Some : goal.returns-in-Some
returns-in-Some c = λ w is-n is-v. says_13 w c.args.list.now is-n (sym c.first_outside-outside.ensures ∙ c.in-Some.is)

pub returns-in-Some-terminal : goal.returns-in-Some-terminal
returns-in-Some-terminal c =
    λ w is-n is-v. says_14 w c.args.list.now is-n (sym c.first_outside-outside.ensures ∙ c.in_default.is) (sym c.first_terminal-terminal.ensures ∙ c.in-Some-terminal.is)

pub returns : goal.returns
returns c =
    λ w is-n is-v. says_fine w c.args.list.now is-n (sym c.first_outside-outside.ensures ∙ c.in_default.is) is-v (sym c.first_terminal-terminal.ensures ∙ c.in_default-terminal.is)
