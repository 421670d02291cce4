use Rattle.pool_check.proofs.Chaining.{seek_begin, seek_hit, seek_on, seek_less, seek_end}
use Rattle.pool_check.proofs.again.is_in.Goals as goal

pub loop-q-init : goal.loop-q-init
loop-q-init c = seek_begin c.requires.0 c.requires.1 c.requires.2

pub returns-then-are_alike : goal.returns-then-are_alike
returns-then-are_alike c = seek_hit c.requires.0 c.requires.1 c.loop-q.invariant c.loop-q-test.true c.are_alike.ensures c.if-are_alike.true

pub loop-q-smaller : goal.loop-q-smaller
loop-q-smaller c = seek_less c.requires.0 c.requires.1 c.loop-q.invariant c.loop-q-test.true c.word-q.ensures

pub loop-q-preserved : goal.loop-q-preserved
loop-q-preserved c = seek_on c.requires.0 c.requires.1 c.loop-q.invariant c.loop-q-test.true c.are_alike.ensures c.if-are_alike.false c.word-q.ensures

pub returns : goal.returns
returns c = seek_end c.requires.0 c.requires.1 c.loop-q.invariant c.loop-q-test.false
