use Rattle.pairs.proofs.Entries.{seek_start, seek_inside, seek_hit, seek_next, seek_less, seek_ends}
use native.Mathlib.Omega.{arith}
use Rattle.pairs.proofs.table.seek.Goals as goal

pub bucket-requires : goal.bucket-requires
bucket-requires c = c.requires.space.few

pub loop-x-init : goal.loop-x-init
loop-x-init c = seek_start c.requires c.args.key c.bucket.ensures c.word-x.ensures

pub overflow_mul-at : goal.overflow_mul-at
overflow_mul-at c = omega (arith, seek_inside c.requires c.args.key c.loop-x.invariant)

pub overflow_add-capacity : goal.overflow_add-capacity
overflow_add-capacity c = omega (arith, c.requires.space.few, seek_inside c.requires c.args.key c.loop-x.invariant)

pub returns-then-word-key : goal.returns-then-word-key
returns-then-word-key c = seek_hit c.requires c.args.key c.loop-x.invariant c.loop-x-test.true c.word.ensures c.if-word-key.true

pub overflow_mul-at-in-loop-x : goal.overflow_mul-at-in-loop-x
overflow_mul-at-in-loop-x c = omega (arith, seek_inside c.requires c.args.key c.loop-x.invariant)

pub overflow_add-capacity-in-loop-x : goal.overflow_add-capacity-in-loop-x
overflow_add-capacity-in-loop-x c = omega (arith, c.requires.space.few, seek_inside c.requires c.args.key c.loop-x.invariant)

pub overflow_add-capacity-in-loop-x-2 : goal.overflow_add-capacity-in-loop-x-2
overflow_add-capacity-in-loop-x-2 c = omega (arith, c.requires.space.few, seek_inside c.requires c.args.key c.loop-x.invariant)

pub loop-x-smaller : goal.loop-x-smaller
loop-x-smaller c = seek_less c.requires c.args.key c.loop-x.invariant c.loop-x-test.true c.word-x-in-loop-x.ensures

pub loop-x-preserved : goal.loop-x-preserved
loop-x-preserved c = seek_next c.requires c.args.key c.loop-x.invariant c.loop-x-test.true c.word.ensures c.if-word-key.false c.word-x-in-loop-x.ensures

pub returns : goal.returns
returns c = seek_ends c.requires c.args.key c.loop-x.invariant c.loop-x-test.false
