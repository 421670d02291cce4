use mathlib.Core.Path.{sym, ◌∙◌}
use Rattle.pool.proofs.Rows.{live_no_pool}
use Rattle.pool_calls.proofs.slot.live.Goals as goal

pub returns-then-not-is_pool : goal.returns-then-not-is_pool
returns-then-not-is_pool c = sym (live_no_pool _ _ _ _ (sym c.is_pool.ensures ∙ c.if-not-is_pool.true))
