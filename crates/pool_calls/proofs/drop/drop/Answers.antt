use mathlib.Core.Path.{refl, sym, ◌∙◌}
use Rattle.pool_calls.proofs.Calling.{drop_nothing}
use Rattle.pool_calls.proofs.drop.drop.Goals as goal

pub returns-then-not-is_pool : goal.returns-then-not-is_pool
returns-then-not-is_pool c = drop_nothing _ _ _ (sym c.is_pool.ensures ∙ c.if-not-is_pool.true) refl
