use Rattle.pool_build.proofs.Gathering.{walks_ends, walks_all}
use mathlib.Core.Path.{◌∙◌, sym}
use Rattle.pool_build.proofs.gather.walked.Goals as goal

pub returns-then-word-eq0 : goal.returns-then-word-eq0
returns-then-word-eq0 c = walks_ends _ (sym c.word.ensures ∙ c.if-word-eq0.true)

pub returns : goal.returns
returns c = walks_all _ (λ e. c.if-word-eq0.false (c.word.ensures ∙ e))
