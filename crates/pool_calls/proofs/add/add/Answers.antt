use mathlib.Core.Path.{refl, sym, ◌∙◌}
use Rattle.pool_calls.proofs.Calling.{add_nothing}
use Rattle.pool_calls.proofs.add.add.Goals as goal

pub returns-then-not-is_pool : goal.returns-then-not-is_pool
returns-then-not-is_pool c = add_nothing _ _ _ _ c.args.room.now (sym c.is_pool.ensures ∙ c.if-not-is_pool.true) refl
