use mathlib.Core.Path.{refl}
use Rattle.diagram.proofs.Accepting.{passed_on}
use Rattle.pool_calls.proofs.Calling.{drop_refused, live_pool, drop_done}
use Rattle.pool_calls.proofs.drop.drop_known.Goals as goal

pub returns-in_err-found : goal.returns-in_err-found
returns-in_err-found c =
    rw (passed_on c.from_residual.result c.in_err-found.field-0.0 c.from_residual.ensures.1)
    (drop_refused _ _ _ c.live_known.ensures c.in_err-found.was)

pub remove-nodes-requires : goal.remove-nodes-requires
remove-nodes-requires c = live_pool _ _ _ c.live_known.ensures c.in_ok-found.was

pub returns : goal.returns
returns c = drop_done _ _ _ c.live_known.ensures c.in_ok-found.was c.remove-nodes.ensures refl
