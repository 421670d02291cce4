use Rattle.pairs.proofs.Entries.{bucket_small, entered_is}
use Rattle.pairs.proofs.Entries.{bucket_small}
use lib.ListN.{length-set}
use native.Mathlib.Omega.{arith}
use Rattle.pairs.proofs.table.enter.Goals as goal

pub offset_bounds-table-head : goal.offset_bounds-table-head
offset_bounds-table-head c = omega (arith, c.bucket-head.ensures, bucket_small c.args.capacity c.args.key c.requires.0.some, c.requires.0.few)

pub bounds-table-head : goal.bounds-table-head
bounds-table-head c = omega (arith, c.bucket-head.ensures, bucket_small c.args.capacity c.args.key c.requires.0.some, c.requires.0.long)

pub bounds-table-at-2 : goal.bounds-table-at-2
bounds-table-at-2 c = simp length-set (omega (arith, c.requires.0.long, c.requires.1))

pub bounds-table-at-3 : goal.bounds-table-at-3
bounds-table-at-3 c = simp length-set (omega (arith, c.requires.0.long, c.requires.1))

pub bounds-table-at-4 : goal.bounds-table-at-4
bounds-table-at-4 c = simp length-set (omega (arith, c.requires.0.long, c.requires.1))

pub offset_bounds-table-head-2 : goal.offset_bounds-table-head-2
offset_bounds-table-head-2 c = omega (arith, c.bucket-head.ensures, bucket_small c.args.capacity c.args.key c.requires.0.some, c.requires.0.few)

pub bounds-table-head-2 : goal.bounds-table-head-2
bounds-table-head-2 c = simp length-set (omega (arith, c.bucket-head.ensures, bucket_small c.args.capacity c.args.key c.requires.0.some, c.requires.0.long))

pub returns : goal.returns
returns c = entered_is _ _ c.args.count c.args.key c.args.low c.args.high c.requires.0 c.requires.1 c.bucket-head.ensures (omega arith)
