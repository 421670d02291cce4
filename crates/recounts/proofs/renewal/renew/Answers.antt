use mathlib.Core.Path.{sym, ◌∙◌}
use Rattle.recounts.proofs.Passes.{turning_few, renew_still, renew_taken}
use Rattle.recounts.proofs.renewal.renew.Goals as goal

pub returns-then-not-is_above_change : goal.returns-then-not-is_above_change
returns-then-not-is_above_change c = renew_still c.requires (sym c.is_above_change.ensures ∙ c.if-not-is_above_change.true)

pub is_marked-requires : goal.is_marked-requires
is_marked-requires c = turning_few c.requires

pub returns-then-is_marked : goal.returns-then-is_marked
returns-then-is_marked c = renew_taken c.requires (sym c.is_marked.ensures ∙ c.if-is_marked.true)

pub join-requires : goal.join-requires
join-requires c = record { turning = c.requires; free = sym c.is_marked.ensures ∙ c.if-is_marked.false }

pub returns : goal.returns
returns c = c.join.ensures
