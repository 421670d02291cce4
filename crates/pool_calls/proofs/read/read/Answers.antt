use mathlib.Core.Path.{refl}
use Rattle.diagram.proofs.Accepting.{passed_on}
use Rattle.pool_calls.proofs.Calling.{read_refused, live_few, live_some, read_no_room, read_fetches, read_done}
use native.Mathlib.Omega.{arith}
use Rattle.pool_calls.proofs.read.read.Goals as goal

pub returns-in_err-nodes : goal.returns-in_err-nodes
returns-in_err-nodes c =
    rw (passed_on c.from_residual.result c.in_err-nodes.field-0.0 c.from_residual.ensures.1)
    (read_refused _ _ _ c.args.room.now c.args.output.now c.live.ensures c.in_err-nodes.was)

pub overflow_mul-all : goal.overflow_mul-all
overflow_mul-all c = omega (arith, live_few _ _ _ c.live.ensures c.in_ok-nodes.was)

pub returns-then-room-all : goal.returns-then-room-all
returns-then-room-all c = read_no_room _ _ _ c.live.ensures c.in_ok-nodes.was c.args.room.now c.args.output.now refl c.if-room-all.true refl

pub overflow_sub-root : goal.overflow_sub-root
overflow_sub-root c = let some = live_some _ _ _ c.live.ensures c.in_ok-nodes.was in let e = c.word.ensures in omega arith

pub fetch-requires : goal.fetch-requires
fetch-requires c = read_fetches _ _ _ c.live.ensures c.in_ok-nodes.was c.args.room.now c.args.output.now refl c.if-room-all.false c.word.ensures

pub returns : goal.returns
returns c = read_done _ _ _ c.live.ensures c.in_ok-nodes.was c.args.room.now c.args.output.now refl c.if-room-all.false c.word.ensures c.fetch.ensures
