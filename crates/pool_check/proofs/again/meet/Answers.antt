use Rattle.pool_check.proofs.Chaining.{meet_free, inner_by}
use Rattle.pool_check.proofs.again.meet.Goals as goal

pub returns-then-is_free : goal.returns-then-is_free
returns-then-is_free c = meet_free c.requires.0 c.is_free.ensures c.if-is_free.true

pub enter-requires : goal.enter-requires
enter-requires c = (c.requires.0, inner_by c.args.table.now c.args.place.0 c.requires.1 c.requires.2 c.is_free.ensures c.if-is_free.false)
