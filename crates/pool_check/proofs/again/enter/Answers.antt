use Rattle.pool_check.proofs.Chaining.{from_key, enter_new}
use Rattle.pool_check.proofs.again.enter.Goals as goal

pub is_in-requires : goal.is_in-requires
is_in-requires c = (c.requires.0, c.requires.1, from_key c.requires.0 c.requires.1 c.key_of-key.ensures c.word-last.ensures)

pub returns : goal.returns
returns c = enter_new c.requires.0 c.requires.1 c.is_in.ensures c.if-is_in.false c.key_of-key.ensures c.word-last.ensures c.link.ensures
