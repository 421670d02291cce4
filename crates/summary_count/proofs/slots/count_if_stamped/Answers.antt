use mathlib.Core.Path.{sym, ◌∙◌}
use Rattle.summary_count.proofs.Turns.{off_stays, on_counts}
use Rattle.summary_count.proofs.slots.count_if_stamped.Goals as goal

pub returns-then-word-number : goal.returns-then-word-number
returns-then-word-number c = off_stays _ _ _ _ (λ e. c.if-word-number.true (c.word.ensures ∙ e))

pub returns : goal.returns
returns c = on_counts _ _ _ _ (sym c.word.ensures ∙ c.if-word-number.false) _ c.word-2.ensures c.put.ensures
